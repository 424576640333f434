-- `checker::look::looked` meets its contract: no leg is in a chain yet. Assumes nothing.
use Rattle.shape.proofs.Placed.{well_formed_guarantees}
use Rattle.places.proofs.ChainLaws.{none_begun}
use Rattle.checker.proofs.look.looked.Goals as goal

pub of-plan-requires : goal.of-plan-requires
of-plan-requires c = well_formed_guarantees _ c.requires.shape

pub chain-chains-requires-clause-unbegun : goal.chain-chains-requires-clause-unbegun
chain-chains-requires-clause-unbegun c = none_begun
