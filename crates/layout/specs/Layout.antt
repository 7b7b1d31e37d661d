-- Where things are drawn. Assumes nothing.
use Rattle.std.specs.Prelude.{cond, ℕ, leb}
use Rattle.layout.specs.declared.Scale.{Scale}
use Rattle.layout.specs.declared.Scale.TheVariants.{Wide, Middle, Narrow, Fine}

-- the longer the evening, the narrower a tick
abbrev pub scale_of : ℕ → Scale
scale_of n = cond (leb n 40) Wide (cond (leb n 160) Middle (cond (leb n 640) Narrow Fine))

abbrev pub tick_width : Scale → ℕ
tick_width Wide = 24
tick_width Middle = 12
tick_width Narrow = 8
tick_width Fine = 6

abbrev pub per_band : Scale → ℕ
per_band Wide = 40
per_band Middle = 80
per_band Narrow = 120
per_band Fine = 160
