use Rattle.std.proofs.Common.{rules, [], get_or, sym, ◌∙◌, subst}
use Rattle.std.proofs.lemmas.List.{take_all}
use Rattle.std.proofs.lemmas.List.Sums.{fold_more}
use Rattle.flow.specs.Reading.{Tallies, whole}
use Rattle.flow.proofs.Marks.{no_steps, no_rows}
use Rattle.flow.proofs.Tallying.{tallies_end}
use Rattle.flow.proofs.Whole.{tallies_whole, tallies_word, word_in}
use Rattle.flow.proofs.reading.tally_jobs.Goals as goal

pub loop-word-init : goal.loop-word-init
loop-word-init c =
    let t = c.default-tally.result in (
      record {
        seen_is = no_steps t.seen (search rules);
        looping_is = no_steps t.looping (search rules);
        first_is = no_steps t.first (search rules);
        last_is = no_steps t.last (search rules);
        followed_is = λ a b. no_rows t.followed (search rules) (λ a l. search rules) b a;
        returns_is = no_rows t.returns (search rules) (λ a l. search rules);
        latest_is = no_steps t.latest (search rules);
        earlier_is = no_steps t.earlier (search rules);
      },
      search rules,
    )

pub loop-word-preserved : goal.loop-word-preserved
loop-word-preserved c =
    let words = c.job_words-words.result.now in
    let left = c.args.left_out in
    let i = c.loop-word.word-index in (
      subst (λ r. Tallies r c.word.new.self) (sym (fold_more (word_in left) (whole []) words i 0 c.loop-word-test.true))
          (tallies_word left _ c.loop-word.tally c.loop-word.invariant.0 (get_or words i 0) c.word.new.self c.word.ensures.took),
      c.word.ensures.bounded c.loop-word.invariant.1,
    )

pub returns-clause-tallies : goal.returns-clause-tallies
returns-clause-tallies c =
    let words = c.job_words-words.result.now in
    let tally = c.end.new.self in
    tallies_whole c.args.book.now c.args.left_out _ tally (take_all c.loop-word.word-index words c.loop-word-test.false ∙ c.job_words-words.ensures)
    (tallies_end _ c.loop-word.tally c.loop-word.invariant.0 tally c.end.ensures.ended)
