-- What a call is told: the number and the place of its ruling, and figures of its own. A refusal has none, which is all of them 0.
use Rattle.std.specs.Prelude.{if◌then◌else◌, ℕ, Result, Ok, Err, eqb}
use Rattle.refusals.specs.Refusals.{Ruling, ruling, refusal}
use Rattle.refusals.specs.declared.refusal.Refusal.{Refusal}

pub record Reply (Figures : Type 0) : Type 0 where
  pub number : ℕ
  pub place : ℕ
  pub figures : Figures

-- its number and place
abbrev pub ruling_of : {Figures : Type 0} → Reply Figures → Ruling
ruling_of r = ruling r.number r.place

-- no refusal, and the figures
abbrev pub granted : {Figures : Type 0} → Figures → Reply Figures
granted f = record { number = 0; place = 0; figures = f }

-- a refusal, and no figures
abbrev pub refused : {Figures : Type 0} → Figures → Ruling → Reply Figures
refused none t = record { number = t.number; place = t.place; figures = none }

-- what an answer tells, where no figures are these
abbrev pub answer_told : {Figures : Type 0} → Figures → Result Figures Refusal → Reply Figures
answer_told none (Ok f) = granted f
answer_told none (Err e) = refused none (refusal e)

-- what a call is told whose rows give a ruling: its figures where no row holds
abbrev pub replied : {Figures : Type 0} → Figures → Ruling → Figures → Reply Figures
replied none t f = if eqb t.number 0 then granted f else refused none t
