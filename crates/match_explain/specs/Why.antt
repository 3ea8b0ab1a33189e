-- Why a request matches the ads that it matches: which conjuncts hold, and what keeps an ad from matching.
use Rattle.std.specs.Prelude.{ℕ, suc, Bool, List, [], ◌∷◌, count_by, map, Option, None, Some, option_map, if◌then◌else◌}
use Rattle.std.specs.Option.{option_map_or}
use Rattle.pool_text.specs.declared.language.AdPlace.{AdPlace}
use Rattle.ad_value.specs.Logic.{is_true}
use Rattle.ad_tree.specs.Frames.{Frame}
use Rattle.ad_tree.specs.Inline.{spelled_tree}
use Rattle.ad_tree.specs.Tree.{Tree}
use Rattle.ad_store.specs.Stock.{Advert}
use Rattle.ad_eval.specs.Value.{inner_evaluation}
use Rattle.ad_printer.specs.Printed.{printed}
use Rattle.conjunct_plan.specs.Tests.{conjuncts, conjuncts_at, requirement_expr}
use Rattle.eval_scope.specs.World.{PlainWorld, frames_of_ad, request_side, resource_side}
use Rattle.match_explain.specs.declared.report.Conjunct.{Conjunct}
use Rattle.match_explain.specs.declared.report.Report.{Report}
use Rattle.match_explain.specs.declared.report.Verdict.{Verdict}

-- the world in which an ad is docked to a single request
abbrev pub docked_to : ℕ → List Frame → List Frame → PlainWorld
docked_to moment request ad = record { moment = moment; request = request; ports = []; docked = ad ∷ [] }

-- ---- conjuncts

-- a conjunct of the requirement of the frame at a place holds: as a part of the requirement it is the Boolean true
abbrev pub holds : PlainWorld → AdPlace → Tree → Bool
holds w p t = is_true (inner_evaluation w p t)

-- a conjunct of a request holds for an ad
abbrev pub holds_for : ℕ → List Frame → List Frame → Tree → Bool
holds_for moment request ad t = holds (docked_to moment request ad) (request_side (docked_to moment request ad)) t

-- for how many of the ads it holds
abbrev pub holding : ℕ → List Frame → List Advert → Tree → ℕ
holding moment request ads t = count_by (λ advert. holds_for moment request advert.ad t) ads

-- ---- verdicts

-- the number of the first of a list, from 1, that fails a test; none where all pass
abbrev pub first_failing : {X : Type 0} → (X → Bool) → List X → Option ℕ
first_failing test [] = None
first_failing test (x ∷ xs) = if test x then option_map suc (first_failing test xs) else Some 1

-- the first conjunct of the requirement of the frame at a place that doesn't hold, 0 where it has no requirement; none where it is met
abbrev pub failing : PlainWorld → AdPlace → Option ℕ
failing w p = option_map_or (λ t. first_failing (holds w p) (conjuncts t)) (requirement_expr (frames_of_ad w p.ad) p.frame) (Some 0)

-- a verdict, by what fails of the request and of the resource: the request is asked first
abbrev pub verdict_by : Option ℕ → Option ℕ → Verdict
verdict_by (Some j) other = Verdict.Request j
verdict_by None (Some j) = Verdict.Resource j
verdict_by None None = Verdict.Accepted

-- the verdict on the last dock
abbrev pub verdict : PlainWorld → Verdict
verdict w = verdict_by (failing w (request_side w)) (failing w (resource_side w))

-- the verdicts on ads
abbrev pub verdicts : ℕ → List Frame → List Advert → List Verdict
verdicts moment request ads = map (λ advert. verdict (docked_to moment request advert.ad)) ads

-- ---- the report

-- a conjunct of a request, printed, with the number of ads for which it holds
abbrev pub conjunct_row : ℕ → List Frame → List Advert → Tree → Conjunct
conjunct_row moment request ads t = record { text = printed (spelled_tree request t); holds = holding moment request ads t }

-- why a request matches the ads that it matches
abbrev pub explained : ℕ → List Frame → List Advert → Report
explained moment request ads = record { conjuncts = map (conjunct_row moment request ads) (conjuncts_at request 0); verdicts = verdicts moment request ads }
