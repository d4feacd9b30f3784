-- What a listing of a book answers
use Rattle.std.specs.Prelude.{◌≡◌, ℕ, ◌<◌, ◌≤◌, ◌↔◌, List, map, length, take, drop, Ok, Err, Result}
use Rattle.steps.specs.declared.names.Name.{Name}
use Rattle.steps.specs.declared.faults.RosterFault.TheVariants.{Unfit, Unlisted}
use Rattle.steps.specs.Kinds.{name_order, name_text}
use Rattle.steps.specs.Rosters.{Fit}
use Rattle.book.specs.Jobs.{Opens, EachStepped}
use Rattle.book.specs.Enter.{VoidBy}
use Rattle.flow.specs.Flow.{Jobs}
use Rattle.flow.specs.Facts.{Agree}
use Rattle.net.specs.Net.{Places, Seated, net}
use Rattle.net.specs.Draw.{LowestUnseated}
use Rattle.net.specs.declared.faults.DrawFault.TheVariants as draw
use Rattle.listing.specs.Page.{listing}
use Rattle.listing.specs.declared.faults.PageFault.{PageFault}
use Rattle.listing.specs.declared.faults.PageFault.TheVariants.{Roster, Draw}

-- jobs that can be drawn, and the page of their net by a roster
pub record Lists (js : Jobs) (roster : List Name) (page : List ℕ) : Type 0 where
  pub groups : List ℕ
  pub listed : Places js groups
  pub few : length groups ≤ 256
  pub seated : Seated js groups
  pub written : page ≡ listing (map name_text roster) (net js groups)

-- a listing's answer, row by row: a void book's row, 3, 10, 9, 11; the page was `old` and is `new`
abbrev pub ListedOn : ℕ → ℕ → Jobs → List Name → List ℕ → List ℕ → Result ℕ PageFault → Type 0
ListedOn steps len js roster old new (Ok n) =
    Opens steps len × Fit name_order roster steps × ((page : List ℕ) × Lists js roster page × (n ≡ length page) × (take n new ≡ page) × (drop n new ≡ drop n old) × (length new ≡ length old))
ListedOn steps len js roster old new (Err (Draw (draw.Void v))) = VoidBy steps len v × (new ≡ old)
ListedOn steps len js roster old new (Err (Roster Unfit)) = Opens steps len × (Fit name_order roster steps → ⊥) × (new ≡ old)
ListedOn steps len js roster old new (Err (Roster (Unlisted p))) = ⊥
ListedOn steps len js roster old new (Err (Draw draw.TooMany)) = Opens steps len × Fit name_order roster steps × ((groups : List ℕ) × Places js groups × (256 < length groups)) × (new ≡ old)
ListedOn steps len js roster old new (Err (Draw (draw.Unseated t))) =
    Opens steps len × Fit name_order roster steps × ((groups : List ℕ) × Places js groups × (length groups ≤ 256) × LowestUnseated js groups t) × (new ≡ old)
ListedOn steps len js roster old new (Err (Draw draw.TooShort)) =
    Opens steps len × Fit name_order roster steps × ((page : List ℕ) × Lists js roster page × (length old < length page)) × (new ≡ old)

-- pages by one roster are equal exactly when the jobs agree on the five facts; the steps of the jobs are on the roster
abbrev pub PagesTell : ℕ → List Name → Type 0
PagesTell steps roster =
    Fit name_order roster steps → steps ≤ 32 → (js ks : Jobs) → EachStepped steps js → EachStepped steps ks
    → (p q : List ℕ) → Lists js roster p → Lists ks roster q → (p ≡ q) ↔ Agree js ks
