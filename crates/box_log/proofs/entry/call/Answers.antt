use Rattle.std.proofs.Common.{rules}
use Rattle.box_log.proofs.EntryCode.{laws, text_is, call_no_text}
use Rattle.box_log.proofs.entry.call.Goals as goal

pub returns-in_err-ok : goal.returns-in_err-ok
returns-in_err-ok c = call_no_text _ _ _ _ _ c.from_utf8.ensures.cases c.in_err-ok.ensures.value c.from_residual.ensures

pub returns-in_err-number-in-free : goal.returns-in_err-number-in-free
returns-in_err-number-in-free c = let e = text_is _ _ _ _ c.from_utf8.ensures.cases c.in_ok-ok.ensures.value in search (laws, rules)

pub returns-in_err-b-in-realloc : goal.returns-in_err-b-in-realloc
returns-in_err-b-in-realloc c = let e = text_is _ _ _ _ c.from_utf8.ensures.cases c.in_ok-ok.ensures.value in search (laws, rules)

pub returns-in_err-a-in-memalign : goal.returns-in_err-a-in-memalign
returns-in_err-a-in-memalign c = let e = text_is _ _ _ _ c.from_utf8.ensures.cases c.in_ok-ok.ensures.value in search (laws, rules)

pub returns-in_ok-number-in-free : goal.returns-in_ok-number-in-free
returns-in_ok-number-in-free c = let e = text_is _ _ _ _ c.from_utf8.ensures.cases c.in_ok-ok.ensures.value in search (laws, rules)

pub returns-in_ok-b-in-realloc : goal.returns-in_ok-b-in-realloc
returns-in_ok-b-in-realloc c = let e = text_is _ _ _ _ c.from_utf8.ensures.cases c.in_ok-ok.ensures.value in search (laws, rules)

pub returns-in_ok-a-in-memalign : goal.returns-in_ok-a-in-memalign
returns-in_ok-a-in-memalign c = let e = text_is _ _ _ _ c.from_utf8.ensures.cases c.in_ok-ok.ensures.value in search (laws, rules)
