-- ALL PROMISES ARE KEPT. Assumes nothing.
use Rattle.words.specs.Edition.{wide}
use Rattle.rules.specs.Heap.{fresh_heap}
use Rattle.std.specs.Prelude.{refl}
use Rattle.calls.specs.Histories.{box, set_up_on}
use Rattle.calls.proofs.Histories.{calls-held}
use Rattle.calls.proofs.Shapes.{shapes}
use Rattle.promises.specs.Promises.{Promises, TheRules, Histories, then}
use Rattle.promises.proofs.AnyInputKept.{any_input, fresh_start}
use Rattle.promises.proofs.TheRulesKept as rule
use Rattle.promises.proofs.HistoriesKept as history
use Rattle.promises.proofs.ResizeKept.{resize_keeps, copies_into, copies_what, copies_many, copies_none}
use Rattle.promises.proofs.NumbersKept.{numbers}
use Rattle.promises.proofs.GrantsKept.{grants}
use Rattle.promises.proofs.LendsKept.{lends}
use Rattle.promises.specs.Requests.{Requests}
use Rattle.promises.proofs.RebuildKept.{rebuild}
use Rattle.promises.proofs.SwayedKept.{swayed}
use Rattle.promises.proofs.SettledKept.{settled}
use Rattle.promises.proofs.BatchKept.{batch}
use Rattle.promises.proofs.FitKept.{fit}

the_rules : TheRules
the_rules =
    record {
      obeys = λ c w h k n. let f = calls-held wide (box c w) h n k in (f.answer, f.held);
      bins_first = λ c w h k off n q z. rule.bins_first c w h n k off q z;
      own_place_first = λ c w h off x n. rule.own_place_first c w h n off x;
      reaches = λ c w h k i n f g. rule.reaches c w h n k i f g;
      copies_into = λ c w h n x s y i r ne. copies_into c w h n x s y r i ne;
      copies_what = λ c w h n x s y i r ne l. copies_what c w h n x s y r i ne l;
      copies_many = λ c w h n x s y r ne. copies_many c w h n x s y r ne;
      copies_none = λ c w h n x s i r. copies_none c w h n x s x r i refl;
      usable = λ c w h off s n q. rule.usable c w h n off s q;
      shape_free = λ c d w v h g n m l a es. shapes wide (box c w) (box d v) h g n m l a es;
    }

histories : Histories
histories =
    record {
      none_unsound = λ w es a. history.none_unsound (set_up_on wide w) (fresh_heap _) (fresh_start w a) es;
      in_use = λ w es off a. history.in_use w a es off;
      apart = λ w es off n off' n' a p q ne. history.apart w a es off n off' n' p q ne;
      inside = λ w es off n a p. history.inside w a es off n p;
      stays = λ w es fs x n a p u. history.stays w a es fs x n p u;
      keeps = λ w es fs x n i a p l u v. history.keeps w a es fs x n i p l u v;
      reads_back = λ w es x n i v a p l. history.reads_back w a es x n i v p l;
      resize_keeps = λ w es x y m n n' i a p q p' l l'. resize_keeps (then w es) (history.heap w a es)
          (history.held w a es) x y m n n' i p q p' l l';
      fresh_record = λ w es a f. history.fresh_record w a es f;
      fresh-answers = λ w v es fs a q f. history.fresh-answers w a v es fs q f;
    }

pub kept : Promises
kept =
    record {
      numbers = numbers;
      any_input = any_input;
      the_rules = the_rules;
      grants = grants;
      lends = lends;
      histories = histories;
      swayed = swayed;
      settled = settled;
    }

-- and document 02's requests
pub requests_kept : Requests
requests_kept = record { rebuild = rebuild; batch = batch; fit = fit }
