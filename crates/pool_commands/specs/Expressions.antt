-- The replies to commands that evaluate an expression.
use Rattle.std.specs.Prelude.{ℕ, List, [], ◌∷◌, Option, None, Some, Result, Ok, Err}
use Rattle.ad_tree.specs.Frames.{Frame}
use Rattle.ad_tree.specs.Inline.{Inline, phrase_of, phrase_tree}
use Rattle.ad_tree.specs.Tree.{Tree}
use Rattle.ad_parser.specs.declared.fault.ParseFault.{ParseFault}
use Rattle.pool_text.specs.declared.language.AdPlace.{AdPlace}
use Rattle.eval_scope.specs.World.{PlainWorld}
use Rattle.ad_eval.specs.Value.{evaluation}
use Rattle.ad_printer.specs.Values.{printed_value}
use Rattle.ad_store.specs.Stock.{Advert}
use Rattle.pool_replies.specs.declared.reply.Reply.{Reply}
use Rattle.pool_replies.specs.declared.refusal.Refusal.TheVariants as why
use Rattle.pool_replies.specs.declared.reply.Reply.TheVariants as reply
use Rattle.pool_commands.specs.Ads.{ad_named}

-- the world of an expression: its own ad with nothing docked, or with one ad
abbrev pub world_of_eval : ℕ → List Frame → Option (List Frame) → PlainWorld
world_of_eval moment frames None = record { moment = moment; request = frames; ports = []; docked = [] }
world_of_eval moment frames (Some other) = record { moment = moment; request = frames; ports = []; docked = other ∷ [] }

-- the root of an expression's own ad
abbrev pub own_root : AdPlace
own_root = record { ad = 0; frame = 0 }

-- the printed value of an expression, whose own ad has these frames
abbrev pub value_line : ℕ → List Frame → Tree → Option (List Frame) → List ℕ
value_line moment frames t other = printed_value frames other (evaluation (world_of_eval moment frames other) own_root t)

-- `eval EXPR`, by what the text of the expression is
abbrev pub eval : ℕ → Result Inline ParseFault → Reply
eval moment (Err fault) = reply.Refused (why.AdText fault)
eval moment (Ok x) = reply.Evaluated (value_line moment (phrase_of x) (phrase_tree x) None)

-- an expression beside an ad
abbrev pub eval_beside : ℕ → List Frame → Tree → Option Advert → Reply
eval_beside moment frames t None = reply.Refused why.UnknownName
eval_beside moment frames t (Some advert) = reply.Evaluated (value_line moment frames t (Some advert.ad))

-- `evalin NAME EXPR`: the fault of the text is told before that the name isn't known
abbrev pub eval_in : ℕ → List Advert → List ℕ → Result Inline ParseFault → Reply
eval_in moment ads name (Err fault) = reply.Refused (why.AdText fault)
eval_in moment ads name (Ok x) = eval_beside moment (phrase_of x) (phrase_tree x) (ad_named name ads)
