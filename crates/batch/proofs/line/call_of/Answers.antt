use Rattle.std.proofs.Common.{refl, rules, ne_eqb}
use Rattle.batch.specs.Lines.{call_of}
use Rattle.batch.proofs.line.call_of.Goals as goal

pub returns-in-0 : goal.returns-in-0
unfolding call_of
returns-in-0 c = rw c.in-0.is refl

pub returns-in-1 : goal.returns-in-1
unfolding call_of
returns-in-1 c = rw c.in-1.is refl

pub returns-in-2 : goal.returns-in-2
unfolding call_of
returns-in-2 c = rw c.in-2.is refl

pub returns-in-3 : goal.returns-in-3
unfolding call_of
returns-in-3 c = rw c.in-3.is refl

pub returns-in_default : goal.returns-in_default
unfolding call_of
returns-in_default c = rw (
  ne_eqb c.args.kind 0 (λ z. search rules),
  ne_eqb c.args.kind 1 (λ z. search rules),
  ne_eqb c.args.kind 2 (λ z. search rules),
  ne_eqb c.args.kind 3 (λ z. search rules),
) refl
