use Rattle.ad_tree.proofs.SpellingLemmas.{inside-literals}
use Rattle.ad_tree.proofs.laws.frames_stand_in_the_order_of_their_brackets.Goals as goal

pub returns : goal.returns
returns g c = inside-literals g.defs
