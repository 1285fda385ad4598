use Rattle.abi.proofs.AbiCode.{odd_unsound, odd_count}
use Rattle.abi.proofs.answer.odd_record.Goals as goal

pub returns-then-words_ok : goal.returns-then-words_ok
returns-then-words_ok c = odd_unsound _ c.words_ok.ensures c.if-words_ok.true

pub returns-else-words_ok : goal.returns-else-words_ok
returns-else-words_ok c = odd_count _ c.words_ok.ensures c.if-words_ok.false
