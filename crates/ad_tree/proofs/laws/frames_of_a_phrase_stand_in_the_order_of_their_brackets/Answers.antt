use Rattle.ad_tree.proofs.SpellingLemmas.{inside-phrase_literals}
use Rattle.ad_tree.proofs.laws.frames_of_a_phrase_stand_in_the_order_of_their_brackets.Goals as goal

pub returns : goal.returns
returns g c = inside-phrase_literals g.tree
