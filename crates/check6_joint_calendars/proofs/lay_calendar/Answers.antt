use Rattle.check6_joint_calendars.proofs.Gathering.{added}
use Rattle.check6_joint_calendars.proofs.lay_calendar.Goals as goal

pub returns : goal.returns
returns c =
    added _ _ _ _ c.len-from.ensures c.len-to.ensures c.gather_windows.ensures.laid c.gather_windows.ensures.count c.gather_windows.ensures.behind c.push.ensures.list
    c.push.ensures.behind
