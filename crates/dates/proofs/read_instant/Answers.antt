use Rattle.dates.proofs.FieldLaws.{instants}
use Rattle.dates.proofs.read_instant.Goals as goal
use Rattle.dates.proofs.read_instant.Goals.{then-not-is_date_time-via-then-not-is_date_time, then-not-is_date_time-via-else-not-is_date_time+then-not-is_real, else-t-ge-EPOCH-via-then-t-ge-EPOCH+else-t-le-LAST, else-t-ge-EPOCH-via-else-t-ge-EPOCH}

pub is_real-requires : goal.is_real-requires
is_real-requires c = search instants

pub returns-then-not-is_date_time : goal.returns-then-not-is_date_time
returns-then-not-is_date_time c =
    elim c.then-not-is_date_time.branch [
      | then-not-is_date_time-via-then-not-is_date_time w ↦ search instants
      | then-not-is_date_time-via-else-not-is_date_time+then-not-is_real w ↦ search instants
    ]

pub milliseconds_of-t-requires : goal.milliseconds_of-t-requires
milliseconds_of-t-requires c = search instants

pub returns-then-t-le-LAST : goal.returns-then-t-le-LAST
returns-then-t-le-LAST c = search instants

pub returns-else-t-ge-EPOCH : goal.returns-else-t-ge-EPOCH
returns-else-t-ge-EPOCH c =
    elim c.else-t-ge-EPOCH.branch [
      | else-t-ge-EPOCH-via-then-t-ge-EPOCH+else-t-le-LAST w ↦ search instants
      | else-t-ge-EPOCH-via-else-t-ge-EPOCH w ↦ search instants
    ]
