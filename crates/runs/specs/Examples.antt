-- Worked examples. A step's number is its place in the roster, which ascends.
use Rattle.std.specs.Prelude.{ℕ, List, [], ◌∷◌, Err}
use Rattle.flow.specs.Flow.{Jobs}
use Rattle.groups.specs.Listings.{Listing}
use Rattle.bonds.specs.Pairs.{side_pairs, side_mark}
use Rattle.net.specs.Net.{Draws}
use Rattle.net.specs.Draw.{Drew}
use Rattle.net.specs.declared.faults.DrawFault.TheVariants.{Unseated}

-- LOAD READ DONE; LOAD READ READ DONE; LOAD DONE, of DONE LOAD READ
abbrev pub listed : Jobs
listed = (1 ∷ 2 ∷ 0 ∷ []) ∷ (1 ∷ 2 ∷ 2 ∷ 0 ∷ []) ∷ (1 ∷ 0 ∷ []) ∷ []

-- ABCD, ACBD
abbrev pub diamond : Jobs
diamond = (0 ∷ 1 ∷ 2 ∷ 3 ∷ []) ∷ (0 ∷ 2 ∷ 1 ∷ 3 ∷ []) ∷ []

-- ABD, ACD
abbrev pub choice : Jobs
choice = (0 ∷ 1 ∷ 3 ∷ []) ∷ (0 ∷ 2 ∷ 3 ∷ []) ∷ []

-- AB, ACDB, ACDCDB
abbrev pub round : Jobs
round = (0 ∷ 1 ∷ []) ∷ (0 ∷ 2 ∷ 3 ∷ 1 ∷ []) ∷ (0 ∷ 2 ∷ 3 ∷ 2 ∷ 3 ∷ 1 ∷ []) ∷ []

-- ACDCB
abbrev pub half_turn : Jobs
half_turn = (0 ∷ 2 ∷ 3 ∷ 2 ∷ 1 ∷ []) ∷ []

-- STTE, ATA, of A E S T
abbrev pub seated : Jobs
seated = (2 ∷ 3 ∷ 3 ∷ 1 ∷ []) ∷ (0 ∷ 3 ∷ 0 ∷ []) ∷ []

-- ATTA, of A T
abbrev pub homeless : Jobs
homeless = (0 ∷ 1 ∷ 1 ∷ 0 ∷ []) ∷ []

-- AB, CD
abbrev pub apart : Jobs
apart = (0 ∷ 1 ∷ []) ∷ (2 ∷ 3 ∷ []) ∷ []

-- AB, CD, ACAB
abbrev pub joined : Jobs
joined = (0 ∷ 1 ∷ []) ∷ (2 ∷ 3 ∷ []) ∷ (0 ∷ 2 ∷ 0 ∷ 1 ∷ []) ∷ []

abbrev pub apart_words : List ℕ
apart_words =
    0x10000000 ∷ 0x10000001 ∷ 0x10000002 ∷ 0x10000003 ∷ 0x20000000 ∷ 0x20000002 ∷ 0x30000001 ∷ 0x30000003
    ∷ 0x40000000 ∷ 0x50000000 ∷ 0x60000001 ∷ 0x40000001 ∷ 0x50000002 ∷ 0x60000003 ∷ 0x80000002 ∷ []

-- the words of each net
pub record Examples : Type 0 where
  pub of_listed : Draws listed
      (0x10000000 ∷ 0x10000001 ∷ 0x10000002 ∷ 0x20000001 ∷ 0x30000000 ∷ 0x40000000 ∷ 0x50000001 ∷ 0x60000000 ∷ 0x70000002 ∷ 0x80000001 ∷ [])
  pub of_none : Draws [] (0x80000000 ∷ [])
  pub of_one : Draws ((0 ∷ []) ∷ []) (0x10000000 ∷ 0x20000000 ∷ 0x30000000 ∷ 0x80000000 ∷ [])
  pub of_diamond : Draws diamond
      (0x10000000 ∷ 0x10000001 ∷ 0x10000002 ∷ 0x10000003 ∷ 0x20000000 ∷ 0x30000003
      ∷ 0x40000000 ∷ 0x50000000 ∷ 0x60000001 ∷ 0x40000001 ∷ 0x50000000 ∷ 0x60000002
      ∷ 0x40000002 ∷ 0x50000001 ∷ 0x60000003 ∷ 0x40000003 ∷ 0x50000002 ∷ 0x60000003 ∷ 0x80000004 ∷ [])
  pub of_choice : Draws choice
      (0x10000000 ∷ 0x10000001 ∷ 0x10000002 ∷ 0x10000003 ∷ 0x20000000 ∷ 0x30000003
      ∷ 0x40000000 ∷ 0x50000000 ∷ 0x60000001 ∷ 0x60000002 ∷ 0x40000001 ∷ 0x50000001 ∷ 0x50000002 ∷ 0x60000003 ∷ 0x80000002 ∷ [])
  pub of_round : Draws round
      (0x10000000 ∷ 0x10000001 ∷ 0x10000002 ∷ 0x10000003 ∷ 0x20000000 ∷ 0x30000001
      ∷ 0x40000000 ∷ 0x50000002 ∷ 0x60000003 ∷ 0x40000001 ∷ 0x50000000 ∷ 0x50000003 ∷ 0x60000001 ∷ 0x60000002 ∷ 0x80000002 ∷ [])
  pub of_half_turn : Draws half_turn
      (0x10000000 ∷ 0x10000001 ∷ 0x10000002 ∷ 0x10000003 ∷ 0x20000000 ∷ 0x30000001
      ∷ 0x40000000 ∷ 0x50000002 ∷ 0x60000001 ∷ 0x40000001 ∷ 0x50000000 ∷ 0x60000002 ∷ 0x80000002 ∷ [])
  pub of_seated : Draws seated
      (0x10000000 ∷ 0x10000001 ∷ 0x10000002 ∷ 0x10000003 ∷ 0x20000000 ∷ 0x20000002 ∷ 0x30000000 ∷ 0x30000001
      ∷ 0x40000000 ∷ 0x50000002 ∷ 0x60000001 ∷ 0x70000003 ∷ 0x80000001 ∷ [])
  -- row 9 names T: the books that hold these jobs are declined so, and their memory stays
  pub of_homeless : (old : List ℕ) → Drew 2 16 homeless old old (Err (Unseated 1))
  pub of_apart : Draws apart apart_words
  pub of_joined : Draws joined apart_words
  -- A, B, C, D against B, D, AC
  pub sides_apart : Listing (side_pairs apart) side_mark side_mark (1 ∷ 2 ∷ 4 ∷ 8 ∷ [])
  pub sides_joined : Listing (side_pairs joined) side_mark side_mark (2 ∷ 8 ∷ 5 ∷ [])
