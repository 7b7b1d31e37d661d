-- Which reservations there are.
-- Assumes nothing.
use Rattle.std.specs.Prelude.{◌≡◌, ℕ, ◌%◌, ◌≤◌}

-- The period is at least 4 and divides 10,080; the quota is at least 1 and at most the period.
abbrev pub GoodReservation : (q p : ℕ) → Type 0
GoodReservation q p = (4 ≤ p) × (p ≤ 10080) × (10080 % p ≡ 0) × (1 ≤ q) × (q ≤ p)
