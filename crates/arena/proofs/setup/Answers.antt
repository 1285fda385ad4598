use native.Mathlib.Omega.{arith}
use lib.ListN.{length-set}
use Rattle.arena.proofs.CallsCode.{setup_refused, setup_done, setup_long}
use Rattle.arena.proofs.setup.Goals as goal

pub returns-then-not-words_ok : goal.returns-then-not-words_ok
returns-then-not-words_ok c = setup_refused _ c.words_ok.ensures c.if-not-words_ok.true c.control_with.ensures

pub overflow_sub-w : goal.overflow_sub-w
overflow_sub-w c = omega (arith, setup_long c.args.w.now c.words_ok.ensures c.if-not-words_ok.false)

pub bounds-w-1 : goal.bounds-w-1
bounds-w-1 c = omega (arith, setup_long c.args.w.now c.words_ok.ensures c.if-not-words_ok.false)

pub overflow_sub-w-2 : goal.overflow_sub-w-2
overflow_sub-w-2 c = omega (arith, setup_long c.args.w.now c.words_ok.ensures c.if-not-words_ok.false)

pub bounds-w-n : goal.bounds-w-n
bounds-w-n c = simp length-set (omega (arith, setup_long c.args.w.now c.words_ok.ensures c.if-not-words_ok.false))

pub overflow_sub-length : goal.overflow_sub-length
overflow_sub-length c = omega (arith, setup_long c.args.w.now c.words_ok.ensures c.if-not-words_ok.false)

pub returns : goal.returns
returns c = setup_done _ c.words_ok.ensures c.if-not-words_ok.false c.control_with-2.ensures
