use Rattle.std.proofs.Common.{◌<◌, ℕ, List}
use Rattle.cred_tries.specs.{Histories.IsLimited, Steps.Step, Steps.calls_at, Steps.events_at}
use Rattle.cred_tries.proofs.{Counted.apart_stays, Earlier.early_behind, Judged.ends_seldom, Limited.limited, Seldom.fails_seldom, Stretched.fails_behind, Stretched.quiet_begins, Stretched.waits_behind, Traced.ascends, Traced.later_is_short, Traced.turn_told}
use Rattle.cred_tries.proofs.laws.each_name_is_limited.Goals as goal

limited_at : (limit : ℕ) (name : List ℕ) (steps : List Step) → 0 < limit → IsLimited limit (events_at limit name steps)
limited_at limit name steps some = limited limit some (calls_at name steps) (ascends name steps).0

pub returns : goal.returns
returns c = record {
  seldom = λ limit name steps some few. fails_seldom limit (events_at limit name steps) few (limited_at limit name steps some);
  ends = λ limit name steps some few. ends_seldom limit (events_at limit name steps) (fails_seldom limit (events_at limit name steps) few (limited_at limit name steps some));
  waits = λ limit name steps some. waits_behind limit (events_at limit name steps) some (limited_at limit name steps some);
  fails = λ limit name steps some. fails_behind limit (events_at limit name steps) some (limited_at limit name steps some);
  quiet = λ limit name steps some. quiet_begins limit (events_at limit name steps) (limited_at limit name steps some);
  limited = limited_at;
  turn = turn_told;
  later = later_is_short;
  early = early_behind;
  apart = apart_stays;
}
