-- `relative_disks::is_beyond` meets its contract: no step overflows, so the machine's test is that of `beyond`.
use Rattle.integers.proofs.Bounds.{machine, t_lt, fits, tests_as}
use Rattle.relative_disks.specs.Relative.{beyond}
use Rattle.relative_disks.proofs.is_beyond.Goals as goal

pub overflow_sub-dx : goal.overflow_sub-dx
overflow_sub-dx c = fits (search machine depth 60 fits 9000) tt

pub overflow_sub-dy : goal.overflow_sub-dy
overflow_sub-dy c = fits (search machine depth 60 fits 9000) tt

pub overflow_mul-result : goal.overflow_mul-result
overflow_mul-result c = fits (search machine depth 60 fits 9000) tt

pub overflow_mul-result-2 : goal.overflow_mul-result-2
overflow_mul-result-2 c = fits (search machine depth 60 fits 9000) tt

pub overflow_sub-result : goal.overflow_sub-result
overflow_sub-result c = fits (search machine depth 60 fits 9000) tt

pub overflow_mul-result-3 : goal.overflow_mul-result-3
overflow_mul-result-3 c = fits (search machine depth 60 fits 9000) tt

pub overflow_mul-result-4 : goal.overflow_mul-result-4
overflow_mul-result-4 c = fits (search machine depth 60 fits 9000) tt

pub overflow_mul-result-5 : goal.overflow_mul-result-5
overflow_mul-result-5 c = fits (search machine depth 60 fits 9000) tt

pub overflow_sub-result-2 : goal.overflow_sub-result-2
overflow_sub-result-2 c = fits (search machine depth 60 fits 9000) tt

pub overflow_mul-result-6 : goal.overflow_mul-result-6
overflow_mul-result-6 c = fits (search machine depth 60 fits 9000) tt

pub overflow_add-result : goal.overflow_add-result
overflow_add-result c = fits (search machine depth 60 fits 9000) tt

pub returns : goal.returns
unfolding beyond
returns c = tests_as (search (machine, t_lt) depth 60 fits 9000) tt
