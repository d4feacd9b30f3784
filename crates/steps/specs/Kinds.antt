-- What the two kinds of step are told by, and how each is ordered
use Rattle.std.specs.Prelude.{ℕ, List, take}
use Rattle.std.specs.Cmp.Lexicographic.{slice_cmp}
use Rattle.std.specs.declared.cmp.Ordering.{Ordering}
use Rattle.std.specs.Ordering.{nat_cmp, on, then_cmp}
use Rattle.steps.specs.declared.codes.Code.{Code}
use Rattle.steps.specs.declared.names.Name.{Name}

-- the bytes of a name
abbrev pub name_text : Name → List ℕ
name_text n = take n.len n.bytes

-- by unit, then by code
abbrev pub code_order : Code → Code → Ordering
code_order = then_cmp (on (λ c. c.unit) nat_cmp) (on (λ c. c.code) nat_cmp)

-- byte by byte, a shorter name ahead of its extensions
abbrev pub name_order : Name → Name → Ordering
name_order = on name_text (slice_cmp nat_cmp)
