use Rattle.std.proofs.Common.{◌∙◌}
use Rattle.abi.proofs.AbiCode.{copied_is}
use Rattle.abi.proofs.copy_out.Goals as goal

pub returns : goal.returns
returns c = c.copy_from_slice.ensures.after ∙ copied_is c.args.r.now c.told-r
