-- The parts of a text
use Rattle.std.specs.Prelude.{◌≡◌, ℕ, zero, suc, ◌+◌, ◌<◌, cond, List, [], ◌∷◌, length, take, drop, ◌==◌, slice_index}
use Rattle.steps.specs.Ranges.{name_byte}
use Rattle.texts.specs.declared.tokens.Token.{Token}
use Rattle.texts.specs.declared.tokens.Token.TheVariants.{Name, Space, LineEnd, Odd, End}

-- what a byte is
pub data Byte : Type 0 where
  letter : Byte
  space : Byte
  line_end : Byte
  odd : Byte

-- a name byte, a space, a line end, or none of these
abbrev pub byte_of : ℕ → Byte
byte_of b = cond (name_byte b) letter (cond (b == 32) space (cond (b == 10) line_end odd))

-- how many name bytes stand at the start, up to m
abbrev pub run : ℕ → List ℕ → ℕ
run zero bs = 0
run (suc m) [] = 0
run (suc m) (b ∷ bs) = cond (name_byte b) (suc (run m bs)) 0

-- what is read of a text at the offset i, and the offset j after it
abbrev pub Read : List ℕ → ℕ → ℕ → Token → Type 0
Read text i j (Name at bytes) = (at ≡ i) × (0 < run 8 (drop i text)) × (bytes.now ≡ take (run 8 (drop i text)) (drop i text)) × (j ≡ i + run 8 (drop i text))
Read text i j (Space at) = (at ≡ i) × (i < length text) × (byte_of (slice_index text i) ≡ space) × (j ≡ i + 1)
Read text i j (LineEnd at) = (at ≡ i) × (i < length text) × (byte_of (slice_index text i) ≡ line_end) × (j ≡ i + 1)
Read text i j (Odd at) = (at ≡ i) × (i < length text) × (byte_of (slice_index text i) ≡ odd) × (j ≡ i)
Read text i j (End at) = (at ≡ i) × (i ≡ length text) × (j ≡ i)
