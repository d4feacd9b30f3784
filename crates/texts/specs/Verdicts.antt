-- What a token means for the line that is read
use Rattle.std.specs.Prelude.{◌≡◌, ℕ, ◌<◌, Bool, true, false, List}
use Rattle.steps.specs.Kinds.{name_text}
use Rattle.steps.specs.Ranges.{IsName}
use Rattle.trails.specs.declared.endings.Cause.{Cause}
use Rattle.trails.specs.declared.endings.Cause.TheVariants.{JobSize, OddByte, NinthByte, NameDue, CutLine}
use Rattle.texts.specs.declared.tokens.Token.{Token}
use Rattle.texts.specs.declared.tokens.Token.TheVariants.{Name, Space, LineEnd, Odd, End}
use Rattle.texts.specs.declared.verdicts.Verdict.{Verdict}
use Rattle.texts.specs.declared.verdicts.Verdict.TheVariants.{Take, Gap, Close, Over, Wrong}

-- a name token's bytes are a name's
abbrev pub Spelled : Token → Type 0
Spelled (Name at bytes) = IsName bytes.now
Spelled (Space at) = Unit {0}
Spelled (LineEnd at) = Unit {0}
Spelled (Odd at) = Unit {0}
Spelled (End at) = Unit {0}

abbrev pub Faults : Verdict → Cause → ℕ → Type 0
Faults v cause at = v ≡ Wrong (record { cause = cause; place = at })

-- the verdict takes the name with these bytes
abbrev pub Takes : Verdict → List ℕ → Type 0
Takes (Take n) bytes = name_text n ≡ bytes
Takes Gap bytes = ⊥
Takes Close bytes = ⊥
Takes Over bytes = ⊥
Takes (Wrong f) bytes = ⊥

-- the verdict on a token, with so many names in the line so far, and whether a name is due
abbrev pub Judged : Token → Bool → ℕ → Verdict → Type 0
Judged (Name at bytes) true len v = (len ≡ 1000 → Faults v JobSize at) × (len < 1000 → Takes v bytes.now)
Judged (Name at bytes) false len v = Faults v NinthByte at
Judged (Space at) true len v = Faults v NameDue at
Judged (Space at) false len v = v ≡ Gap
Judged (LineEnd at) true len v = Faults v NameDue at
Judged (LineEnd at) false len v = v ≡ Close
Judged (Odd at) due len v = Faults v OddByte at
Judged (End at) true len v = (len ≡ 0 → v ≡ Over) × (0 < len → Faults v CutLine at)
Judged (End at) false len v = Faults v CutLine at
