-- `run` is safe and ends: each array has its length.
use Rattle.script_io.proofs.Spaces.{zeros}
use Rattle.script_io.proofs.run.Goals as goal

pub slice_bounds-run_in-end : goal.slice_bounds-run_in-end
slice_bounds-run_in-end c = zeros 2097408

pub slice_bounds-run_in-end-2 : goal.slice_bounds-run_in-end-2
slice_bounds-run_in-end-2 c = zeros 1048576

pub slice_bounds-run_in-end-3 : goal.slice_bounds-run_in-end-3
slice_bounds-run_in-end-3 c = zeros 1048576

pub slice_bounds-run_in-end-4 : goal.slice_bounds-run_in-end-4
slice_bounds-run_in-end-4 c = zeros 65536
