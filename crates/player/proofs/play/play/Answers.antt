use Rattle.std.proofs.Common.{rules}
use Rattle.player.proofs.PlayCode.{laws}
use Rattle.player.proofs.play.play.Goals as goal

pub slice_bounds-malloc-end-in-Malloc : goal.slice_bounds-malloc-end-in-Malloc
slice_bounds-malloc-end-in-Malloc c = search (laws, rules)

pub slice_bounds-free-end-in-Free : goal.slice_bounds-free-end-in-Free
slice_bounds-free-end-in-Free c = search (laws, rules)

pub slice_bounds-realloc-end-in-Realloc : goal.slice_bounds-realloc-end-in-Realloc
slice_bounds-realloc-end-in-Realloc c = search (laws, rules)

pub slice_bounds-memalign-end-in-Memalign : goal.slice_bounds-memalign-end-in-Memalign
slice_bounds-memalign-end-in-Memalign c = search (laws, rules)

pub returns-in-Malloc : goal.returns-in-Malloc
returns-in-Malloc c = search (laws, rules)

pub returns-in-Free : goal.returns-in-Free
returns-in-Free c = search (laws, rules)

pub returns-in-Realloc : goal.returns-in-Realloc
returns-in-Realloc c = search (laws, rules)

pub returns-in-Memalign : goal.returns-in-Memalign
returns-in-Memalign c = search (laws, rules)
