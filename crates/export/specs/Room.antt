-- Lines written into a lent slice.
-- Assumes nothing.
use Rattle.std.specs.Prelude.{◌≡◌, ℕ, ◌+◌, ◌<◌, ◌≤◌, List, ◌++◌, length, take, drop}

-- Lines are written from `at` up to `end`, after what was; behind them the room is as it was.
pub record Grew (before after : List ℕ) (at : ℕ) (lines : List ℕ) (end : ℕ) : Type 0 where
  pub ends : end ≡ at + length lines
  pub fits : end ≤ length before
  pub size : length after ≡ length before
  pub wrote : take end after ≡ take at before ++ lines
  pub rest : drop end after ≡ drop end before

-- Behind `at` there is no room for all of the lines, and nothing is written.
pub record Full (before after : List ℕ) (at : ℕ) (lines : List ℕ) : Type 0 where
  pub same : after ≡ before
  pub short : length before < at + length lines
