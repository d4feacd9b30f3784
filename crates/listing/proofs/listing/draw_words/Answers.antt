use Rattle.std.proofs.Common.{ℕ, ◌<◌, length, get_or, sym, ap, ◌∙◌, subst, arith}
use Rattle.std.proofs.lemmas.Result.{err_from_is_err_and}
use Rattle.book.specs.View.{held_by, memory_of}
use Rattle.listing.specs.Listed.{Lists}
use Rattle.listing.specs.Pieces.{Tagged, paged}
use Rattle.listing.proofs.Listed.{declined, drawn_tagged, few_words, lists}
use Rattle.listing.proofs.listing.draw_words.Goals as goal

pub returns-in_err-count : goal.returns-in_err-count
returns-in_err-count c =
    let book = c.args.book.now in
    let p = err_from_is_err_and c.from_residual.result c.from_residual.ensures.1 in
    rw (p.1, p.2) (declined book.steps (length (memory_of book)) (held_by book) c.args.words.now c.draw.new.out c.told-words _ c.in_err-count.ensures.drew)

pub split_at-requires : goal.split_at-requires
split_at-requires c =
    let (ws, d, count, front, rest, long) = c.in_ok-count.ensures.drew.1 in
    omega (arith, few_words (held_by c.args.book.now) ws d, c.told-words)

pub returns : goal.returns
returns c =
    let js = held_by c.args.book.now in
    let (ws, d, count, front, rest, long) = c.in_ok-count.ensures.drew.1 in
    let same = sym (c.split_at.ensures.front ∙ front) in (
      c.in_ok-count.ensures.drew.0,
      omega (arith, few_words js ws d, ap length same),
      subst (λ vs. (k : ℕ) → k < length vs → Tagged (get_or vs k 0)) same (drawn_tagged js ws d),
      λ roster. subst (λ vs. Lists js roster (paged roster vs)) same (lists js ws d roster),
    )
