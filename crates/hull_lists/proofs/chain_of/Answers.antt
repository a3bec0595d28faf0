-- `hull_lists::chain_of` meets its contract: the points of the slice are those of the list from where the chain begins.
use mathlib.Core.Path.{◌∙◌}
use Rattle.hull_chains.proofs.Spanning.{points_tail}
use Rattle.hull_lists.proofs.chain_of.Goals as goal

pub returns-clause-points : goal.returns-clause-points
returns-clause-points c = points_tail c.chain-k.result c.chain-k.new.list ∙ c.chain-k.ensures.left
