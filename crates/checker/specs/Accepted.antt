-- Accepted tables: well-formed, and the rules hold. A whole check gives "nothing violated" of exactly these (demand 2).
use Rattle.std.specs.Prelude.{ℕ, List}
use Rattle.shape.specs.Shape.{WellFormedTable}
use Rattle.rules.specs.Rules.{RulesHold}

pub record Accepted (t : List ℕ) : Type 0 where
  pub shape : WellFormedTable t
  pub rules : RulesHold t
