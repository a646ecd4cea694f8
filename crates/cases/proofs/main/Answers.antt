-- `main` is safe and ends: the array has its length.
use Rattle.case_lines.proofs.Spaces.{zeros}
use Rattle.cases.proofs.main.Goals as goal

pub slice_bounds-read_full-end : goal.slice_bounds-read_full-end
slice_bounds-read_full-end c = zeros 2097152
