-- A search for a request from nothing on, through all its ports.
use Rattle.std.proofs.Common.{◌≡◌, ◌<◌, ◌≤◌, ◌+◌, ◌*◌, ℕ, true, false, List, [], length, refl, All, None, Some, ap, sym, ◌∙◌}
use Rattle.std.proofs.Common.{subst, arith}
use Rattle.std.proofs.lemmas.List.Elements.{All-cons, All-nil}
use Rattle.ad_tree.specs.Frames.{Frame}
use Rattle.ad_tree.specs.Small.{IsSmall}
use Rattle.ad_tree.specs.declared.request.Port.{Port}
use Rattle.eval_scope.specs.World.{PlainWorld}
use Rattle.ad_eval.specs.Small.{AreSmall}
use Rattle.dock_match.specs.Pool.{Pool}
use Rattle.dock_match.specs.Small.{AreSmallAds}
use Rattle.gang_ports.specs.declared.searching.Ending.{Ending}
use Rattle.gang_ports.specs.declared.weighing.Side.{Side}
use Rattle.gang_ports.specs.Choice.{over_prefixes, tuples}
use Rattle.gang_ports.specs.Gangs.{attributes_behind, attributes_open, choice_of, docks_open, docks_weighed, evaluations_behind, gang, gang_world}
use Rattle.gang_ports.specs.Search.{AreSides, IsBehind, Outcome, Takes, attributes_from, choice_in, evaluations_from, evaluations_once, is_found}
use Rattle.gang_ports.specs.Small.{AreSmallSides}
use Rattle.gang_ports.proofs.OnceLemmas.{once-within}
use Rattle.gang_ports.proofs.PoolLemmas.{evaluations-total, gang-found, gang-none, gang-within}
use Rattle.gang_ports.proofs.SmallLemmas.{are-small}

-- nothing is docked, no places are before, and the sides (of which there is another list) are those of all ports
pub record Started (pool : Pool) (request : List Frame) (ports : List Port) : Type 0 where
  pub w : PlainWorld
  pub world : w ≡ gang_world pool request ports []
  pub before : List ℕ
  pub none : before ≡ []
  pub sides : List Side
  pub listed : List Side
  pub same : sides ≡ listed
  pub are : AreSides pool request ports 0 listed
  pub many : length listed ≡ length ports

-- what a search through all ports takes
pub record TakesInAll (pool : Pool) (request : List Frame) (ports : List Port) (tops entry tops_then entry_then : ℕ) : Type 0 where
  pub evaluations : tops_then ≤ tops + 3 * docks_open pool request ports
  pub once : tops_then ≤ tops + 3 * docks_weighed pool request ports
  pub entries : entry_then ≤ entry + attributes_open pool request ports

module _ {pool : Pool} {request : List Frame} {ports : List Port} (s : Started pool request ports) where
  sides-are : AreSides pool request ports 0 s.sides
  sides-are = subst (AreSides pool request ports 0) (sym s.same) s.are

  sides-many : length s.sides ≡ length ports
  sides-many = ap length s.same ∙ s.many

  pub from-nothing : IsBehind pool s.w s.before s.sides
  from-nothing =
      subst (λ (w : PlainWorld). IsBehind pool w s.before s.sides) (sym s.world)
      (subst (λ (b : List ℕ). IsBehind pool (gang_world pool request ports []) b s.sides) (sym s.none) (record { world = refl; sides = sides-are }))

  -- ---- what it takes

  pub in-all : {tops entry tops_then entry_then : ℕ} → Takes pool s.w s.before s.sides tops entry tops_then entry_then
      → TakesInAll pool request ports tops entry tops_then entry_then
  in-all {tops} {entry} {tops_then} {entry_then} takes =
      let evaluations : evaluations_from pool s.w (length s.sides) s.before ≡ 3 * docks_open pool request ports =
      ap (λ (w : PlainWorld). evaluations_from pool w (length s.sides) s.before) s.world
      ∙ ap (over_prefixes (choice_of pool request ports) (evaluations_behind pool request ports) (length s.sides)) s.none
      ∙ ap (λ (n : ℕ). over_prefixes (choice_of pool request ports) (evaluations_behind pool request ports) n []) sides-many
      ∙ evaluations-total pool request ports in
      let entries : attributes_from pool s.w (length s.sides) s.before ≡ attributes_open pool request ports =
      ap (λ (w : PlainWorld). attributes_from pool w (length s.sides) s.before) s.world
      ∙ ap (over_prefixes (choice_of pool request ports) (attributes_behind pool request ports) (length s.sides)) s.none
      ∙ ap (λ (n : ℕ). over_prefixes (choice_of pool request ports) (attributes_behind pool request ports) n []) sides-many in
      let once : evaluations_once pool s.w s.before s.sides ≡ evaluations_once pool (gang_world pool request ports []) [] s.sides =
      ap (λ (w : PlainWorld). evaluations_once pool w s.before s.sides) s.world
      ∙ ap (λ (b : List ℕ). evaluations_once pool (gang_world pool request ports []) b s.sides) s.none in
      record {
        evaluations = subst (λ (n : ℕ). tops_then ≤ tops + n) evaluations takes.evaluations;
        once = omega (arith, takes.once, once, once-within pool request ports s.sides sides-are sides-many);
        entries = subst (λ (n : ℕ). entry_then ≤ entry + n) entries takes.entries;
      }

  -- ---- what it finds

  module _ (after : List ℕ) (e : Ending) (o : Outcome (choice_in pool s.w) (length s.sides) s.before after e) where
    outcome : Outcome (choice_of pool request ports) (length s.sides) [] after e
    outcome =
        subst (λ (b : List ℕ). Outcome (choice_of pool request ports) (length s.sides) b after e) s.none
        (subst (λ (w : PlainWorld). Outcome (choice_in pool w) (length s.sides) s.before after e) s.world o)

    pub none-whole : is_found e ≡ false → gang pool request ports ≡ None
    none-whole none = gang-none pool request ports (length s.sides) sides-many (by e none outcome)
      where
        by : (e : Ending) → is_found e ≡ false → Outcome (choice_of pool request ports) (length s.sides) [] after e
            → tuples (choice_of pool request ports) (length s.sides) [] ≡ []
        by Ending.Found none o = absurd (cc)
        by (Ending.NotFound many) none o = o.1 [] refl refl

    found : is_found e ≡ true → Outcome (choice_of pool request ports) (length s.sides) [] after Ending.Found
    found is = by e is outcome
      where
        by : (e : Ending) → is_found e ≡ true → Outcome (choice_of pool request ports) (length s.sides) [] after e
            → Outcome (choice_of pool request ports) (length s.sides) [] after Ending.Found
        by Ending.Found is o = o
        by (Ending.NotFound many) is o = absurd (cc)

    pub found-whole : is_found e ≡ true → gang pool request ports ≡ Some after
    found-whole is = gang-found pool request ports (length s.sides) after sides-many (found is)

    pub within-whole : is_found e ≡ true → (m : ℕ) → length pool.ads ≤ m → All (λ p. p < m) after
    within-whole is m fits = gang-within pool request ports (length s.sides) m after fits (found is)

  -- ---- small ads

  pub start-small : IsSmall request → AreSmall s.w
  start-small small = subst AreSmall (sym s.world) (All-cons IsSmall request [] small (All-nil IsSmall))

  pub sides-small : AreSmallAds pool.ads → AreSmallSides s.sides
  sides-small small = are-small pool request ports small 0 s.sides sides-are
