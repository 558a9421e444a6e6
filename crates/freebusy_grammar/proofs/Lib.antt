pub mod GrammarLaws
pub mod PeriodLaws
pub mod ScanLaws
pub mod ValueLaws
