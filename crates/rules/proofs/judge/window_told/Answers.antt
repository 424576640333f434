-- `rules::judge::window_told` meets its contract. Assumes nothing.
use Rattle.rules.proofs.Judging.{told_le, window_kept, window_broken}
use Rattle.rules.proofs.judge.window_told.Goals as goal

pub returns : goal.returns
returns c = told_le _ _ (window_kept _ _ _ c.requires) (window_broken _ _ _ c.requires)
