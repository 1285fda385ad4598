use Rattle.std.proofs.Common.{rules}
use Rattle.abi.proofs.AbiCode.{lent_72, lent_2, call_lost, batch_lost, call_odd, batch_odd}
use Rattle.abi.proofs.turned_down.Goals as goal

pub returns-then-not-lent_ok-clause-call : goal.returns-then-not-lent_ok-clause-call
returns-then-not-lent_ok-clause-call c = λ n. call_lost _ _ _ c.lent_ok.ensures c.if-not-lent_ok.true c.from.ensures

pub returns-then-not-lent_ok-clause-batch : goal.returns-then-not-lent_ok-clause-batch
returns-then-not-lent_ok-clause-batch c = λ n. batch_lost _ _ _ c.lent_ok.ensures c.if-not-lent_ok.true c.from.ensures

pub bounds-rec-7 : goal.bounds-rec-7
bounds-rec-7 c = let l = lent_72 _ _ c.lent_ok.ensures c.if-not-lent_ok.false in search rules

pub tell-requires : goal.tell-requires
tell-requires c = lent_2 _ _ c.lent_ok.ensures c.if-not-lent_ok.false

pub returns-then-rec-ne0-clause-call : goal.returns-then-rec-ne0-clause-call
returns-then-rec-ne0-clause-call c = λ n p k.
    call_odd _ _ _ c.lent_ok.ensures c.if-not-lent_ok.false c.if-rec-ne0.true _ c.odd_record.ensures c.tell.ensures.number c.tell.ensures.out p k

pub returns-then-rec-ne0-clause-batch : goal.returns-then-rec-ne0-clause-batch
returns-then-rec-ne0-clause-batch c = λ n p.
    batch_odd _ _ _ c.lent_ok.ensures c.if-not-lent_ok.false c.if-rec-ne0.true _ c.odd_record.ensures c.tell.ensures.number c.tell.ensures.out p
