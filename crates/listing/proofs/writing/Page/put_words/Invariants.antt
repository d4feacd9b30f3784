use Rattle.std.proofs.Common.{◌≡◌, map, take}
use Rattle.cursors.specs.Adds.{Adds}
use Rattle.steps.specs.Kinds.{name_text}
use Rattle.net.specs.Kinds.{number_of}
use Rattle.listing.specs.Pieces.{pieces, end_kind}
use Rattle.listing.proofs.writing.Page.put_words.Given as goal

-- the text of the words so far is put
abbrev pub invariant-loop-word : goal.invariant-loop-word
invariant-loop-word l =
    Adds l.initial.cursor (pieces (map name_text l.self.names.now) 1 (take l.word-index l.self.words.now)) l.cursor
    × (number_of l.before ≡ end_kind 1 (take l.word-index l.self.words.now))
