-- Groups found that are closed under turns are all the listed groups
use Rattle.std.proofs.Common.{ℕ, zero, suc, ◌^◌, ◌<◌, List, length, get_or, ◌∙◌, ⊎_elim, arith}
use Rattle.std.specs.Prelude.{Any, Contains}
use lib.Bits.{bit_and}
use Rattle.std.proofs.lemmas.Bool.{cases_eq}
use Rattle.std.proofs.lemmas.List.{get_or_default}
use Rattle.groups.specs.declared.searching.Search.{Search}
use Rattle.groups.specs.Groups.{In, Largest}
use Rattle.groups.specs.Rows.{held, Lawful, turned}
use Rattle.groups.specs.Found.{Sought, Holds, Whole}
use Rattle.groups.specs.Search.{Seeded, Closed, ClosedAt}
use Rattle.groups.proofs.Sets.{in_dec, in_and, in_or_l, in_or_r, in_one, same_points}
use Rattle.groups.proofs.RowBits.{held_row}
use Rattle.groups.proofs.Holding.{opened}

module _ (s : Search) (seeded : Seeded s 64) (closed : Closed s (length s.found.items)) where
  abbrev rows : List ℕ
  rows = s.rows.bits

  abbrev first : ℕ
  first = s.marks.first

  abbrev second : ℕ
  second = s.marks.second

  abbrev found : List ℕ
  found = s.found.items

  lawful : Lawful (held rows)
  lawful = s.rows.lawful

  holds : Holds s.rows s.marks found
  holds = opened s

  -- a group found that has u, v and the points of k below n
  abbrev Near : ℕ → ℕ → ℕ → ℕ → Type 0
  Near k u v n = Any (λ g. In g u × In g v × ((p : ℕ) → p < n → In k p → In g p)) found

  -- a turn about a point of k loses no point of k
  stays : (k g n p : ℕ) → Largest (held rows) k → In k n → In k p → In g p → In (turned rows g n) p
  stays k g n p l kn kp gp = let row = get_or rows n 0 in in_or_l (bit_and g row) (2 ^ n) p (in_and g row p gp ((held_row rows n).to p (l.paired n p kn kp)))

  module _ (k : ℕ) (l : Largest (held rows) k) (u v : ℕ) (ku : In k u) (fu : In first u) (kv : In k v) (sv : In second v) where
    start : Near k u v 0
    start =
        let iu = in_or_l (2 ^ u) (2 ^ v) u (in_one u) in
        let iv = in_or_r (2 ^ u) (2 ^ v) v (in_one v) in
        let uu = l.paired u u ku ku in
        let vv = l.paired v v kv kv in
        let (i, g, h, at, c) = seeded u (lawful.below u u uu) v (lawful.below v v vv) uu vv (l.paired u v ku kv) (u, iu, fu) (v, iv, sv) in
        (i, g, h, at, (c u iu, c v iv, λ p b. absurd (omega arith)))

    turn : (n : ℕ) → In k n → Near k u v n → Near k u v (suc n)
    turn n kn (i, g, h, at, (iu, iv, up)) =
        let kept : (p : ℕ) → In k p → In g p → In (turned rows g n) p = λ p kp gp. stays k g n p l kn kp gp in
        let nn = l.paired n n kn kn in
        let own : In (turned rows g n) n = in_or_r (bit_and g (get_or rows n 0)) (2 ^ n) n (in_one n) in
        let close : ClosedAt s g 64 = rw (get_or_default found i 0 g h ∙ at) at (closed i h) in
        let (j, f, b, e, c) = close n (lawful.below n n nn) nn (u, kept u ku iu, fu) (v, kept v kv iv, sv) in
        (j, f, b, e, (c u (kept u ku iu), c v (kept v kv iv), λ p lt kp. c p (⊎_elim (λ e. rw e own) (λ ne. kept p kp (up p (omega arith) kp)) (cases_eq p n))))

    skip : (n : ℕ) → (In k n → ⊥) → Near k u v n → Near k u v (suc n)
    skip n kn (i, g, h, at, (iu, iv, up)) = (i, g, h, at, (iu, iv, λ p lt kp. ⊎_elim (λ e. absurd (kn (rw (← e) kp))) (λ ne. up p (omega arith) kp) (cases_eq p n)))

    near : (n : ℕ) → Near k u v n
    near zero = start
    near (suc n) = ⊎_elim (λ kn. turn n kn (near n)) (λ kn. skip n kn (near n)) (in_dec k n)

  has : (k : ℕ) → Sought s.rows s.marks k → Contains found k
  has k l =
      let big = l.largest in
      let (u, ku, fu) = l.one in
      let (v, kv, sv) = l.two in
      let (i, g, h, at, (iu, iv, up)) = near k big u v ku fu kv sv 64 in
      let all : (p : ℕ) → In k p → In g p = λ p kp. up p (lawful.below p p (big.paired p p kp kp)) kp in
      let listed : Sought s.rows s.marks g = rw at at (holds.sound i g h) in
      let group = listed.largest in
      let same = same_points g k (λ p ip. big.full p (group.paired p p ip ip, λ q kq. group.paired q p (all q kq) ip)) all in
      let found_at : Contains found g = (i, h, at) in
      rw same at found_at

  pub closed_whole : Whole s.rows s.marks found
  closed_whole = record { few = holds.few; sound = holds.sound; apart = holds.apart; whole = has }
