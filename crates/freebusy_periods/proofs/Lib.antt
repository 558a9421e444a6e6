pub mod CapLaws
pub mod AmountLaws
pub mod DurationLaws
pub mod PeriodLaws
pub mod CaseLaws
pub mod Examples
