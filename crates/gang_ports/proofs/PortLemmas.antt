-- The ports of an ad, port by port.
use Rattle.std.proofs.Common.{◌≡◌, ◌<◌, ◌≤◌, ◌+◌, ◌-◌, ℕ, suc, Bool, true, false, not, ◌&&◌, ◌||◌, refl, List, [], ◌∷◌}
use Rattle.std.proofs.Common.{◌++◌, length, map, drop, take, get_or, Option, None, Some, option_map, slice_get, ap, sym, ◌∙◌, arith, append_assoc}
use Rattle.std.proofs.Common.{add-one, length-drop}
use Rattle.std.specs.List.{list_any}
use Rattle.std.specs.Option.{option_and_then}
use Rattle.std.proofs.lemmas.List.{take_all}
use Rattle.std.proofs.Math.Seq.{drop-cons}
use Rattle.ad_tree.specs.declared.request.Port.{Port}
use Rattle.ad_tree.specs.Frames.{Frame}
use Rattle.ad_tree.specs.Names.{are_apart, has_name, same_name}
use Rattle.ad_tree.specs.Tree.{Tree, Trees, pack}
use Rattle.ad_tree.proofs.TreeLemmas.{pack-drop}
use Rattle.gang_ports.specs.Ports.{port_of, ports_of_all}

-- ---- the ports that trees open

-- ports before those that trees open
abbrev pub behind : List Port → Option (List Port) → Option (List Port)
behind ports o = option_map (λ rest. ports ++ rest) o

behind-more : (ports : List Port) (port : Port) (o : Option (List Port))
    → behind ports (option_map (λ rest. port ∷ rest) o) ≡ behind (ports ++ port ∷ []) o
behind-more ports port None = refl
behind-more ports port (Some rest) = ap Some (sym (append_assoc ports (port ∷ []) rest))

module _ (fs : List Frame) (ts : List Tree) where
  pub ports-next : (ports new : List Port) (i : ℕ) (t : Tree) (port : Port) → new ≡ ports ++ port ∷ [] → slice_get ts i ≡ Some t
      → Some port ≡ port_of fs t
      → behind ports (ports_of_all fs (pack (drop i ts))) ≡ ports_of_all fs (pack ts)
      → behind new (ports_of_all fs (pack (drop (i + 1) ts))) ≡ ports_of_all fs (pack ts)
  ports-next ports new i t port added at opens so_far =
      ap (λ (ps : List Port). behind ps (ports_of_all fs (pack (drop (i + 1) ts)))) added
      ∙ sym (behind-more ports port (ports_of_all fs (pack (drop (i + 1) ts))))
      ∙ ap (λ (o : Option Port). behind ports (option_and_then (λ p. option_map (λ rest. p ∷ rest) (ports_of_all fs (pack (drop (i + 1) ts)))) o)) opens
      ∙ ap (λ (us : Trees). behind ports (ports_of_all fs us)) (sym (pack-drop ts i t at))
      ∙ so_far

  pub ports-fail : (ports : List Port) (i : ℕ) (t : Tree) → slice_get ts i ≡ Some t → None ≡ port_of fs t
      → behind ports (ports_of_all fs (pack (drop i ts))) ≡ ports_of_all fs (pack ts) → None ≡ ports_of_all fs (pack ts)
  ports-fail ports i t at opens so_far =
      ap (λ (o : Option Port). behind ports (option_and_then (λ p. option_map (λ rest. p ∷ rest) (ports_of_all fs (pack (drop (i + 1) ts)))) o)) opens
      ∙ ap (λ (us : Trees). behind ports (ports_of_all fs us)) (sym (pack-drop ts i t at))
      ∙ so_far

-- ---- labels

abbrev pub labels : List Port → List (List ℕ)
labels ports = map (λ port. port.label) ports

pub has_name-any : (name : List ℕ) (ports : List Port) → has_name name (labels ports) ≡ list_any (λ port. same_name port.label name) ports
has_name-any name [] = refl
has_name-any name (port ∷ ports) = ap (λ (b : Bool). same_name port.label name || b) (has_name-any name ports)

module _ (ports : List Port) (i : ℕ) (d : Port) (within : i < length ports) (name : List ℕ) (is : name ≡ (get_or ports i d).label) where
  abbrev rest : List Port
  rest = take (length ports - (i + 1)) (drop (i + 1) ports)

  rest-is : rest ≡ drop (suc i) ports
  rest-is =
      let long : length (drop (i + 1) ports) ≤ length ports - (i + 1) = omega (arith, length-drop (i + 1) ports) in
      take_all (length ports - (i + 1)) (drop (i + 1) ports) long ∙ ap (λ k. drop k ports) (add-one i)

  -- whether a later port has the label too
  labels-at : (found : Bool) → list_any (λ p. same_name p.label name) rest ≡ found
      → are_apart (labels (drop i ports)) ≡ (not found && are_apart (labels (drop (suc i) ports)))
  labels-at found e =
      ap (λ (ps : List Port). are_apart (labels ps)) (drop-cons ports i d within)
      ∙ ap (λ (n : List ℕ). not (has_name n (labels (drop (suc i) ports))) && are_apart (labels (drop (suc i) ports))) (sym is)
      ∙ ap (λ (b : Bool). not b && are_apart (labels (drop (suc i) ports)))
      (has_name-any name (drop (suc i) ports) ∙ ap (list_any (λ p. same_name p.label name)) (sym rest-is) ∙ e)

  pub apart-fail : list_any (λ p. same_name p.label name) rest ≡ true → are_apart (labels (drop i ports)) ≡ are_apart (labels ports)
      → false ≡ are_apart (labels ports)
  apart-fail e so_far = sym (labels-at true e) ∙ so_far

  pub apart-next : list_any (λ p. same_name p.label name) rest ≡ false → are_apart (labels (drop i ports)) ≡ are_apart (labels ports)
      → are_apart (labels (drop (i + 1) ports)) ≡ are_apart (labels ports)
  apart-next e so_far = ap (λ k. are_apart (labels (drop k ports))) (add-one i) ∙ sym (labels-at false e) ∙ so_far
