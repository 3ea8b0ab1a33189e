use Rattle.pool_text.proofs.WordLemmas.{past_word-le, take-word_of}
use Rattle.pool_text.proofs.words.word_of.Goals as goal

pub slice_bounds-result-count : goal.slice_bounds-result-count
slice_bounds-result-count c = rw c.past_word.ensures (past_word-le c.args.bytes.now)

pub returns : goal.returns
returns c = rw c.past_word.ensures (take-word_of c.args.bytes.now)
