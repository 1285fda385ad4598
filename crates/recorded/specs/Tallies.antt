-- What a replay counts: each count is that of the tally, wrapping. Assumes nothing.
use Rattle.std.specs.Prelude.{Bool, ◌+◌}
use Rattle.words.specs.Logic.{pick}
use Rattle.words.specs.Edition.{wide}
use Rattle.chunk.specs.Bytes.{wrap}
use Rattle.recorded.specs.declared.tally.Tally.{Tally}

-- one number more is not the crate's
abbrev pub one_differs : Tally → Tally
one_differs t =
    record {
      calls = t.calls;
      grants = t.grants;
      refusals = t.refusals;
      looks = t.looks;
      not_read = t.not_read;
      differ = wrap wide (t.differ + 1);
    }

abbrev pub noted : Bool → Tally → Tally
noted same t = pick same t (one_differs t)

-- one line more is odd
abbrev pub one_is_odd : Tally → Tally
one_is_odd t =
    record {
      calls = t.calls;
      grants = t.grants;
      refusals = t.refusals;
      looks = t.looks;
      not_read = wrap wide (t.not_read + 1);
      differ = t.differ;
    }

abbrev pub counted : Bool → Tally → Tally
counted odd t = pick odd (one_is_odd t) t
