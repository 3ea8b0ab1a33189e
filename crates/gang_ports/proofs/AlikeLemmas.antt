-- Two worlds with one request and one ad docked last: what names no ad docked before has the same value in both.
use Rattle.std.proofs.Common.{◌≡◌, ◌<◌, ◌+◌, inl, inr, ℕ, zero, suc, Bool, true, false, ◌||◌, ◌&&◌, cond, refl, List, [], ◌∷◌}
use Rattle.std.proofs.Common.{◌++◌, length, map, Option, None, Some, option_map, slice_get, unwrap_or, nat_eq, pos, codes, if◌then◌else◌, ap, sym}
use Rattle.std.proofs.Common.{◌∙◌, subst, arith}
use Rattle.std.specs.Option.{option_and_then, option_map_or}
use Rattle.std.proofs.lemmas.Bool.Decides.{nat_tests}
use Rattle.pool_text.specs.declared.language.AdPlace.{AdPlace}
use Rattle.pool_text.specs.declared.language.Pos.{Pos}
use Rattle.ad_value.specs.Demands.{all_demanded, list_value, selected, subscripted}
use Rattle.ad_value.specs.Demands.{chosen}
use Rattle.ad_value.specs.Logic.{is_true}
use Rattle.ad_value.specs.Operators.{binary_value, unary_value}
use Rattle.ad_value.specs.Plain.{Plain, undefined, error, boolean, integer, text, list, ad_at}
use Rattle.builtin_funcs.specs.Calls.{call_value, is_known}
use Rattle.ad_tree.specs.Enclosing.{enclosing_frames}
use Rattle.ad_tree.specs.Frames.{Frame, attributes_at, expr_at}
use Rattle.ad_tree.specs.Names.{same_name}
use Rattle.ad_tree.specs.Special.{attribute_named, rank_of, requirement_of}
use Rattle.ad_tree.specs.Tree.{Label, literal, name, unary, binary, all, any, choice, select, subscript, call, Tree, node, frame, Trees, none, more}
use Rattle.ad_tree.specs.Tree.{list as list_node}
use Rattle.ad_tree.specs.declared.request.Port.{Port}
use Rattle.ad_tree.specs.declared.tree.Scope.{Scope}
use Rattle.eval_scope.specs.declared.found.Found.{Found}
use Rattle.eval_scope.specs.Look.{Candidate, in_frame, label_of, attribute_in, enclosing, enclosing_any, find, first_found, found_at, found_attribute, labels}
use Rattle.eval_scope.specs.Look.{labels_from, or_else, targets}
use Rattle.eval_scope.specs.World.{PlainWorld, expr_of, frame_of_attribute, frames_of_ad, port_frame, request_side, resource_side, size_at, target}
use Rattle.eval_scope.proofs.LookLemmas.{first_found-append}
use Rattle.ad_eval.specs.Dock.{attribute_of, is_docked, meets_requirement, rank_by, rank_number}
use Rattle.ad_eval.specs.Node.{attribute_value, called, conditional, function_value, named, node_value, only_ad, sized_ad}
use Rattle.ad_eval.specs.Value.{evaluation_at, results_by, value_at, value_by}
use Rattle.gang_ports.specs.FreePorts.{any_refers, is_reference, refers}
use Rattle.gang_ports.proofs.NearLemmas.{AllNear, AllNearOption, IsNear, NearOption, NearValue, binary-near, call-near, chosen-near, conjunction-near}
use Rattle.gang_ports.proofs.NearLemmas.{demanded-near, disjunction-near, element-near, list-near, literal-near, unary-near}

neither : (a b : Bool) → (a || b) ≡ false → (a ≡ false) × (b ≡ false)
neither true b e = absurd (cc)
neither false b e = (refl, e)

-- ---- what is found

abbrev NearFound : ℕ → Found → Type 0
NearFound n Found.Nothing = Unit {0}
NearFound n (Found.Place p) = IsNear n p.ad
NearFound n (Found.Attr s) = IsNear n s.ad

NearFound-or_else : (n : ℕ) (a b : Found) → NearFound n a → NearFound n b → NearFound n (or_else a b)
NearFound-or_else n Found.Nothing b h k = k
NearFound-or_else n (Found.Place p) b h k = h
NearFound-or_else n (Found.Attr s) b h k = h

NearFound-attribute : (n : ℕ) (w : PlainWorld) (p : AdPlace) (x : List ℕ) → IsNear n p.ad → NearFound n (found_attribute (attribute_in w p x))
NearFound-attribute n w p x h = by (attribute_named (frames_of_ad w p.ad) p.frame x)
  where
    by : (o : Option ℕ) → NearFound n (found_attribute (option_map {U = Pos} (λ k. record { ad = p.ad; frame = p.frame; attr = k }) o))
    by None = tt
    by (Some k) = h

-- places to look that are all near
abbrev NearCandidates : ℕ → List Candidate → Type 0
NearCandidates n [] = Unit {0}
NearCandidates n (in_frame p ∷ cs) = IsNear n p.ad × NearCandidates n cs
NearCandidates n (label_of k label ∷ cs) = ⊥

first-near : (n : ℕ) (w : PlainWorld) (x : List ℕ) (cs : List Candidate) → NearCandidates n cs → NearFound n (first_found w x cs)
first-near n w x [] h = tt
first-near n w x (in_frame p ∷ cs) h =
    NearFound-or_else n (found_at w x (in_frame p)) (first_found w x cs) (NearFound-attribute n w p x h.0) (first-near n w x cs h.1)
first-near n w x (label_of k label ∷ cs) h = absurd h

enclosing-near : (n : ℕ) (p : AdPlace) → IsNear n p.ad → (fs : List ℕ) → NearCandidates n (map (λ f. in_frame (record { ad = p.ad; frame = f })) fs)
enclosing-near n p h [] = tt
enclosing-near n p h (f ∷ fs) = (h, enclosing-near n p h fs)

-- the labels from the k-th on: of those before the last none is found
labels-near : (n : ℕ) (w : PlainWorld) (x : List ℕ) (k : ℕ) (ports : List Port) (docked : List (List Frame))
    → ((j : ℕ) (port : Port) → k + j < n → slice_get ports j ≡ Some port → same_name x port.label ≡ false)
    → k + length docked ≡ suc n → NearFound n (first_found w x (labels_from k ports docked))
labels-near n w x k [] docked first many = tt
labels-near n w x k (port ∷ ports) [] first many = tt
labels-near n w x k (port ∷ ports) (ad ∷ docked) first many =
    NearFound-or_else n (found_at w x (label_of k port.label)) (first_found w x (labels_from (suc k) ports docked)) (here (same_name x port.label) refl)
    (labels-near n w x (suc k) ports docked (λ j q low at. let moved : k + suc j < n = omega (arith, low) in first (suc j) q moved at) (omega (arith, many)))
  where
    last : (ds : List (List Frame)) → k + suc (length ds) ≡ suc n → same_name x port.label ≡ true → k ≡ n
    last [] long e = omega (arith, long)
    last (d ∷ ds) long e =
        let before : k + 0 < n = omega (arith, long) in let not_it : same_name x port.label ≡ false = first 0 port before refl in absurd (cc)

    here : (b : Bool) → same_name x port.label ≡ b → NearFound n (cond b (Found.Place (record { ad = k; frame = 0 })) Found.Nothing)
    here false e = tt
    here true e = inr (last docked many e)

labels-found : (w v : PlainWorld) (x : List ℕ) (k : ℕ) (ports : List Port) (docked : List (List Frame))
    → first_found w x (labels_from k ports docked) ≡ first_found v x (labels_from k ports docked)
labels-found w v x k [] docked = refl
labels-found w v x k (port ∷ ports) [] = refl
labels-found w v x k (port ∷ ports) (ad ∷ docked) = ap (or_else (found_at w x (label_of k port.label))) (labels-found w v x (suc k) ports docked)

-- the labels depend on how many ads are docked alone
labels-by-length : (k : ℕ) (ports : List Port) (xs ys : List (List Frame)) → length xs ≡ length ys → labels_from k ports xs ≡ labels_from k ports ys
labels-by-length k [] xs ys e = refl
labels-by-length k (port ∷ ports) [] [] e = refl
labels-by-length k (port ∷ ports) [] (y ∷ ys) e = absurd (omega (arith, e))
labels-by-length k (port ∷ ports) (x ∷ xs) [] e = absurd (omega (arith, e))
labels-by-length k (port ∷ ports) (x ∷ xs) (y ∷ ys) e =
    ap (λ (cs : List Candidate). label_of k port.label ∷ cs) (labels-by-length (suc k) ports xs ys (omega (arith, e)))

-- ---- options and values

then-same : (n : ℕ) (k l : Plain → Option Plain) (r : Option Plain) → NearOption n r → ((u : Plain) → NearValue n u → k u ≡ l u)
    → option_and_then k r ≡ option_and_then l r
then-same n k l None h same = refl
then-same n k l (Some u) h same = same u h

then-near : (n : ℕ) (k : Plain → Option Plain) (r : Option Plain) → NearOption n r → ((u : Plain) → NearValue n u → NearOption n (k u))
    → NearOption n (option_and_then k r)
then-near n k None h near = tt
then-near n k (Some u) h near = near u h

map-near : (n : ℕ) (f : Plain → Plain) (r : Option Plain) → ((u : Plain) → NearValue n (f u)) → NearOption n (option_map f r)
map-near n f None near = tt
map-near n f (Some u) near = near u

map_or-same : {X Y : Type 0} (f g : X → Y) (o : Option X) (d : Y) → ((x : X) → f x ≡ g x) → option_map_or f o d ≡ option_map_or g o d
map_or-same f g None d same = refl
map_or-same f g (Some x) d same = same x

module _ (moment : ℕ) (request : List Frame) (ports : List Port) (i : ℕ) (xs ys : List (List Frame)) (one : length xs ≡ suc i)
    (other : length ys ≡ suc i) where
  abbrev w : PlainWorld
  w = record { moment = moment; request = request; ports = ports; docked = xs }

  abbrev v : PlainWorld
  v = record { moment = moment; request = request; ports = ports; docked = ys }

  abbrev Near : ℕ → Type 0
  Near k = IsNear (suc i) k

  -- an expression of the request has no label before the last as a bare name
  abbrev pub Unnamed : Tree → Type 0
  Unnamed t = (j : ℕ) (port : Port) → j < i → slice_get ports j ≡ Some port → refers port.label t ≡ false

  abbrev AllUnnamed : Trees → Type 0
  AllUnnamed ts = (j : ℕ) (port : Port) → j < i → slice_get ports j ≡ Some port → any_refers port.label ts ≡ false

  abbrev Unlabelled : Label → Type 0
  Unlabelled label = (j : ℕ) (port : Port) → j < i → slice_get ports j ≡ Some port → is_reference port.label label ≡ false

  module _ (last : frames_of_ad w (suc i) ≡ frames_of_ad v (suc i)) where
    -- ---- look-ups

    frames-same : (k : ℕ) → Near k → frames_of_ad w k ≡ frames_of_ad v k
    frames-same k (inl e) = ap (frames_of_ad w) e ∙ sym (ap (frames_of_ad v) e)
    frames-same k (inr e) = ap (frames_of_ad w) e ∙ last ∙ sym (ap (frames_of_ad v) e)

    attribute-same : (p : AdPlace) (x : List ℕ) → Near p.ad → attribute_in w p x ≡ attribute_in v p x
    attribute-same p x h =
        ap (λ (fs : List Frame). option_map {U = Pos} (λ k. record { ad = p.ad; frame = p.frame; attr = k }) (attribute_named fs p.frame x))
        (frames-same p.ad h)

    first-same : (x : List ℕ) (cs : List Candidate) → NearCandidates (suc i) cs → first_found w x cs ≡ first_found v x cs
    first-same x [] h = refl
    first-same x (in_frame p ∷ cs) h =
        ap (λ (o : Option Pos). or_else (found_attribute o) (first_found w x cs)) (attribute-same p x h.0)
        ∙ ap (or_else (found_at v x (in_frame p))) (first-same x cs h.1)
    first-same x (label_of k label ∷ cs) h = absurd h

    enclosing-same : (p : AdPlace) (x : List ℕ) → Near p.ad → first_found w x (enclosing w p) ≡ first_found v x (enclosing v p)
    enclosing-same p x h =
        first-same x (enclosing w p) (enclosing-near (suc i) p h (enclosing_frames (frames_of_ad w p.ad) p.frame))
        ∙ ap (λ (fs : List Frame). first_found v x (map (λ f. in_frame (record { ad = p.ad; frame = f })) (enclosing_frames fs p.frame)))
        (frames-same p.ad h)

    labels-same : (k : ℕ) (x : List ℕ) → first_found w x (labels w k) ≡ first_found v x (labels v k)
    labels-same zero x = labels-found w v x 1 ports xs ∙ ap (first_found v x) (labels-by-length 1 ports xs ys (one ∙ sym other))
    labels-same (suc k) x = refl

    abbrev the_last : AdPlace
    the_last = record { ad = suc i; frame = 0 }

    some_docked : nat_eq (suc i) 0 ≡ false
    some_docked = grind (arith, nat_tests)

    target-last : (docked : List (List Frame)) → length docked ≡ suc i
        → target (record { moment = moment; request = request; ports = ports; docked = docked }) 0 ≡ Some the_last
    target-last docked many =
        ap (λ (m : ℕ). let p : AdPlace = record { ad = m; frame = 0 } in cond (nat_eq m 0) None (Some p)) many
        ∙ ap (λ b. cond b None (Some the_last)) some_docked

    targets-same : (k : ℕ) (x : List ℕ) → first_found w x (targets w k) ≡ first_found v x (targets v k)
    targets-same zero x =
        ap (λ (o : Option AdPlace). first_found w x (enclosing_any w o)) (target-last xs one)
        ∙ enclosing-same the_last x (inr refl)
        ∙ sym (ap (λ (o : Option AdPlace). first_found v x (enclosing_any v o)) (target-last ys other))
    targets-same (suc k) x = enclosing-same (record { ad = 0; frame = port_frame ports (suc k) }) x (inl refl)

    targets-near : (k : ℕ) (x : List ℕ) → NearFound (suc i) (first_found w x (targets w k))
    targets-near zero x =
        subst (λ (o : Option AdPlace). NearFound (suc i) (first_found w x (enclosing_any w o))) (sym (target-last xs one))
        (first-near (suc i) w x (enclosing w the_last) (enclosing-near (suc i) the_last (inr refl) (enclosing_frames (frames_of_ad w (suc i)) 0)))
    targets-near (suc k) x =
        let p : AdPlace = record { ad = 0; frame = port_frame ports (suc k) } in
        first-near (suc i) w x (enclosing w p) (enclosing-near (suc i) p (inl refl) (enclosing_frames request (port_frame ports (suc k))))

    labels-are-near : (k : ℕ) (x : List ℕ) → (k ≡ 0 → Unlabelled (name Scope.Bare x)) → NearFound (suc i) (first_found w x (labels w k))
    labels-are-near zero x quiet =
        labels-near (suc i) w x 1 ports xs (λ j port low at. let less : j < i = omega (arith, low) in quiet refl j port less at) (omega (arith, one))
    labels-are-near (suc k) x quiet = tt

    in-parts : (u : PlainWorld) (p : AdPlace) (x : List ℕ)
        → find u p Scope.Bare x ≡ or_else (first_found u x (enclosing u p)) (or_else (first_found u x (labels u p.ad)) (first_found u x (targets u p.ad)))
    in-parts u p x =
        first_found-append u x (enclosing u p) (labels u p.ad ++ targets u p.ad)
        ∙ ap (or_else (first_found u x (enclosing u p))) (first_found-append u x (labels u p.ad) (targets u p.ad))

    find-same : (p : AdPlace) (scope : Scope) (x : List ℕ) → Near p.ad → find w p scope x ≡ find v p scope x
    find-same p Scope.Bare x h =
        in-parts w p x
        ∙ ap (λ f. or_else f (or_else (first_found w x (labels w p.ad)) (first_found w x (targets w p.ad)))) (enclosing-same p x h)
        ∙ ap (λ f. or_else (first_found v x (enclosing v p)) (or_else f (first_found w x (targets w p.ad)))) (labels-same p.ad x)
        ∙ ap (λ f. or_else (first_found v x (enclosing v p)) (or_else (first_found v x (labels v p.ad)) f)) (targets-same p.ad x)
        ∙ sym (in-parts v p x)
    find-same p Scope.My x h = first-same x (in_frame (record { ad = p.ad; frame = 0 }) ∷ []) (h, tt)
    find-same p Scope.Target x h = targets-same p.ad x

    find-near : (p : AdPlace) (scope : Scope) (x : List ℕ) → Near p.ad → (p.ad ≡ 0 → Unlabelled (name scope x))
        → NearFound (suc i) (find w p scope x)
    find-near p Scope.Bare x h quiet =
        subst (NearFound (suc i)) (sym (in-parts w p x))
        (NearFound-or_else (suc i) (first_found w x (enclosing w p)) (or_else (first_found w x (labels w p.ad)) (first_found w x (targets w p.ad)))
        (first-near (suc i) w x (enclosing w p) (enclosing-near (suc i) p h (enclosing_frames (frames_of_ad w p.ad) p.frame)))
        (NearFound-or_else (suc i) (first_found w x (labels w p.ad)) (first_found w x (targets w p.ad)) (labels-are-near p.ad x quiet) (targets-near p.ad x)))
    find-near p Scope.My x h quiet = first-near (suc i) w x (in_frame (record { ad = p.ad; frame = 0 }) ∷ []) (h, tt)
    find-near p Scope.Target x h quiet = targets-near p.ad x

    -- ---- expressions, where the values of attributes are the same

    module _ (at later : Pos → Option Plain) (same : (s : Pos) → Near s.ad → at s ≡ later s)
        (near : (s : Pos) → Near s.ad → NearOption (suc i) (at s)) where
      named-same : (f : Found) → NearFound (suc i) f → named at f ≡ named later f
      named-same Found.Nothing h = refl
      named-same (Found.Place p) h = refl
      named-same (Found.Attr s) h = same s h

      named-near : (f : Found) → NearFound (suc i) f → NearOption (suc i) (named at f)
      named-near Found.Nothing h = tt
      named-near (Found.Place p) h = h
      named-near (Found.Attr s) h = near s h

      looked-same : (p : AdPlace) (x : List ℕ) → Near p.ad → attribute_value at w p x ≡ attribute_value later v p x
      looked-same p x h =
          named-same (found_attribute (attribute_in w p x)) (NearFound-attribute (suc i) w p x h)
          ∙ ap (λ (o : Option Pos). named later (found_attribute o)) (attribute-same p x h)

      looked-near : (p : AdPlace) (x : List ℕ) → Near p.ad → NearOption (suc i) (attribute_value at w p x)
      looked-near p x h = named-near (found_attribute (attribute_in w p x)) (NearFound-attribute (suc i) w p x h)

      selected-same : (x : List ℕ) (a : Plain) → NearValue (suc i) a → selected (attribute_value at w) x a ≡ selected (attribute_value later v) x a
      selected-same x (ad_at p) h = looked-same p x h
      selected-same x undefined h = refl
      selected-same x a h = refl

      selected-near : (x : List ℕ) (a : Plain) → NearValue (suc i) a → NearOption (suc i) (selected (attribute_value at w) x a)
      selected-near x (ad_at p) h = looked-near p x h
      selected-near x undefined h = tt
      selected-near x a h = tt

      subscripted-same : (a b : Plain) → NearValue (suc i) a → subscripted (attribute_value at w) a b ≡ subscripted (attribute_value later v) a b
      subscripted-same error b h = refl
      subscripted-same a error h = refl
      subscripted-same undefined b h = refl
      subscripted-same a undefined h = refl
      subscripted-same (list items) (integer z) h = refl
      subscripted-same (ad_at p) (text x) h = looked-same p x h
      subscripted-same a b h = refl

      subscripted-near : (a b : Plain) → NearValue (suc i) a → NearOption (suc i) (subscripted (attribute_value at w) a b)
      subscripted-near error b h = tt
      subscripted-near a error h = tt
      subscripted-near undefined b h = tt
      subscripted-near a undefined h = tt
      subscripted-near (list items) (integer z) h = element-near (suc i) items z h
      subscripted-near (ad_at p) (text x) h = looked-near p x h
      subscripted-near a b h = tt

      -- calls

      abbrev NearPlace : Option AdPlace → Type 0
      NearPlace None = Unit {0}
      NearPlace (Some p) = Near p.ad

      only-near : (args : List Plain) → AllNear (suc i) args → NearPlace (only_ad args)
      only-near (ad_at p ∷ []) h = h.0
      only-near args h = tt

      sized-near : (x : List ℕ) (args : List Plain) → AllNear (suc i) args → NearPlace (sized_ad x args)
      sized-near x args h = by (same_name x (codes "size"))
        where
          by : (b : Bool) → NearPlace (if b then only_ad args else None)
          by true = only-near args h
          by false = tt

      function-same : (x : List ℕ) (args : List Plain) → AllNear (suc i) args → function_value w x args ≡ function_value v x args
      function-same x args h = by (sized_ad x args) (sized-near x args h)
        where
          by : (o : Option AdPlace) → NearPlace o
              → option_map_or (λ (p : AdPlace). integer (pos (size_at w p))) o (call_value x args moment)
              ≡ option_map_or (λ (p : AdPlace). integer (pos (size_at v p))) o (call_value x args moment)
          by None k = refl
          by (Some p) k = ap (λ (fs : List Frame). integer (pos (length (attributes_at fs p.frame)))) (frames-same p.ad k)

      function-near : (x : List ℕ) (args : List Plain) → AllNear (suc i) args → NearValue (suc i) (function_value w x args)
      function-near x args h = by (sized_ad x args)
        where
          by : (o : Option AdPlace) → NearValue (suc i) (option_map_or (λ (p : AdPlace). integer (pos (size_at w p))) o (call_value x args moment))
          by None = call-near (suc i) x args moment h
          by (Some p) = tt

      conditional-near : (rs : List (Option Plain)) → AllNearOption (suc i) rs → NearOption (suc i) (conditional rs)
      conditional-near (c ∷ a ∷ b ∷ []) h = then-near (suc i) (chosen a b) c h.0 (λ u k. chosen-near (suc i) a b u h.1.0 h.1.1.0)
      conditional-near rs h = tt

      module _ (x : List ℕ) where
        args-same : (o : Option (List Plain)) → ((vs : List Plain) → o ≡ Some vs → AllNear (suc i) vs)
            → option_map (function_value w x) o ≡ option_map (function_value v x) o
        args-same None h = refl
        args-same (Some vs) h = ap Some (function-same x vs (h vs refl))

        args-near : (o : Option (List Plain)) → ((vs : List Plain) → o ≡ Some vs → AllNear (suc i) vs)
            → NearOption (suc i) (option_map (function_value w x) o)
        args-near None h = tt
        args-near (Some vs) h = function-near x vs (h vs refl)

        called-same : (rs : List (Option Plain)) → AllNearOption (suc i) rs → called w x rs ≡ called v x rs
        called-same rs h =
            ap (λ (o : Option Plain). if is_known x (length rs) then if same_name x (codes "ifThenElse") then conditional rs else o else Some error)
            (args-same (all_demanded rs) (demanded-near (suc i) rs h))

        called-near : (rs : List (Option Plain)) → AllNearOption (suc i) rs → NearOption (suc i) (called w x rs)
        called-near rs h = by (is_known x (length rs)) (same_name x (codes "ifThenElse"))
          where
            by : (a b : Bool) → NearOption (suc i) (if a then if b then conditional rs else option_map (function_value w x) (all_demanded rs) else Some error)
            by false b = tt
            by true true = conditional-near rs h
            by true false = args-near (all_demanded rs) (demanded-near (suc i) rs h)

      listed-near : (o : Option (List Plain)) → ((vs : List Plain) → o ≡ Some vs → AllNear (suc i) vs) → NearOption (suc i) (option_map list_value o)
      listed-near None h = tt
      listed-near (Some vs) h = list-near (suc i) vs (h vs refl)

      -- nodes

      module _ (p : AdPlace) (at_near : Near p.ad) where
        node-same : (label : Label) (rs : List (Option Plain)) → (p.ad ≡ 0 → Unlabelled label) → AllNearOption (suc i) rs
            → node_value at w p label rs ≡ node_value later v p label rs
        node-same (name scope x) rs quiet h =
            named-same (find w p scope x) (find-near p scope x at_near quiet) ∙ ap (named later) (find-same p scope x at_near)
        node-same (unary op) (a ∷ []) quiet h = refl
        node-same (unary op) rs quiet h = refl
        node-same (binary op) (a ∷ b ∷ []) quiet h = refl
        node-same (binary op) rs quiet h = refl
        node-same (select x) (a ∷ []) quiet h =
            then-same (suc i) (selected (attribute_value at w) x) (selected (attribute_value later v) x) a h.0 (selected-same x)
        node-same (select x) rs quiet h = refl
        node-same subscript (a ∷ b ∷ []) quiet h =
            then-same (suc i) (λ u. option_and_then (subscripted (attribute_value at w) u) b)
            (λ u. option_and_then (subscripted (attribute_value later v) u) b) a h.0
            (λ u k. then-same (suc i) (subscripted (attribute_value at w) u) (subscripted (attribute_value later v) u) b h.1.0
            (λ z l. subscripted-same u z k))
        node-same subscript rs quiet h = refl
        node-same (call x) rs quiet h = called-same x rs h
        node-same label rs quiet h = refl

        node-near : (label : Label) (rs : List (Option Plain)) → (p.ad ≡ 0 → Unlabelled label) → AllNearOption (suc i) rs
            → NearOption (suc i) (node_value at w p label rs)
        node-near (literal l) rs quiet h = literal-near (suc i) l
        node-near (name scope x) rs quiet h = named-near (find w p scope x) (find-near p scope x at_near quiet)
        node-near (unary op) (a ∷ []) quiet h = map-near (suc i) (unary_value op) a (unary-near (suc i) op)
        node-near (unary op) rs quiet h = tt
        node-near (binary op) (a ∷ b ∷ []) quiet h =
            then-near (suc i) (λ u. option_map (binary_value op u) b) a h.0 (λ u k. map-near (suc i) (binary_value op u) b (binary-near (suc i) op u))
        node-near (binary op) rs quiet h = tt
        node-near all rs quiet h = conjunction-near (suc i) (boolean true) rs tt
        node-near any rs quiet h = disjunction-near (suc i) (boolean false) rs tt
        node-near choice rs quiet h = conditional-near rs h
        node-near (select x) (a ∷ []) quiet h = then-near (suc i) (selected (attribute_value at w) x) a h.0 (selected-near x)
        node-near (select x) rs quiet h = tt
        node-near subscript (a ∷ b ∷ []) quiet h =
            then-near (suc i) (λ u. option_and_then (subscripted (attribute_value at w) u) b) a h.0
            (λ u k. then-near (suc i) (subscripted (attribute_value at w) u) b h.1.0 (λ z l. subscripted-near u z k))
        node-near subscript rs quiet h = tt
        node-near (call x) rs quiet h = called-near x rs h
        node-near list_node rs quiet h = listed-near (all_demanded rs) (demanded-near (suc i) rs h)

        mutual
          tree-same : (t : Tree) → (p.ad ≡ 0 → Unnamed t) → value_by at w p t ≡ value_by later v p t
          tree-same (node label ts) quiet =
              node-same label (results_by at w p ts) (λ e j port low is.
              (neither (is_reference port.label label) (any_refers port.label ts) (quiet e j port low is)).0)
              (trees-near ts (λ e j port low is. (neither (is_reference port.label label) (any_refers port.label ts) (quiet e j port low is)).1))
              ∙ ap (node_value later v p label) (trees-same ts (λ e j port low is.
              (neither (is_reference port.label label) (any_refers port.label ts) (quiet e j port low is)).1))
          tree-same (frame f) quiet = refl

          trees-same : (ts : Trees) → (p.ad ≡ 0 → AllUnnamed ts) → results_by at w p ts ≡ results_by later v p ts
          trees-same none quiet = refl
          trees-same (more t ts) quiet =
              ap (λ (r : Option Plain). r ∷ results_by at w p ts)
              (tree-same t (λ e j port low is. (neither (refers port.label t) (any_refers port.label ts) (quiet e j port low is)).0))
              ∙ ap (λ (rs : List (Option Plain)). value_by later v p t ∷ rs)
              (trees-same ts (λ e j port low is. (neither (refers port.label t) (any_refers port.label ts) (quiet e j port low is)).1))

          tree-near : (t : Tree) → (p.ad ≡ 0 → Unnamed t) → NearOption (suc i) (value_by at w p t)
          tree-near (node label ts) quiet =
              node-near label (results_by at w p ts) (λ e j port low is.
              (neither (is_reference port.label label) (any_refers port.label ts) (quiet e j port low is)).0)
              (trees-near ts (λ e j port low is. (neither (is_reference port.label label) (any_refers port.label ts) (quiet e j port low is)).1))
          tree-near (frame f) quiet = at_near

          trees-near : (ts : Trees) → (p.ad ≡ 0 → AllUnnamed ts) → AllNearOption (suc i) (results_by at w p ts)
          trees-near none quiet = tt
          trees-near (more t ts) quiet = (
            tree-near t (λ e j port low is. (neither (refers port.label t) (any_refers port.label ts) (quiet e j port low is)).0),
            trees-near ts (λ e j port low is. (neither (refers port.label t) (any_refers port.label ts) (quiet e j port low is)).1),
          )

    -- ---- attributes, by the number of references

    module _ (quiet : (f k : ℕ) (t : Tree) → expr_at request f k ≡ Some t → Unnamed t) where
      abbrev AreAlike : Option Plain → Option Plain → Type 0
      AreAlike a b = (a ≡ b) × NearOption (suc i) a

      expr-same : (s : Pos) → Near s.ad → expr_of w s ≡ expr_of v s
      expr-same s h = ap (λ (fs : List Frame). expr_at fs s.frame s.attr) (frames-same s.ad h)

      value_at-alike : (m : ℕ) (s : Pos) → Near s.ad → AreAlike (value_at m w s) (value_at m v s)
      unfolding value_at
      value_at-alike zero s h = (refl, tt)
      value_at-alike (suc m) s h =
          let whole = by (value_at-alike m) (expr_of w s) refl in
          (whole.0 ∙ ap (option_and_then (value_by (value_at m v) v (frame_of_attribute s))) (expr-same s h), whole.1)
        where
          by : ((u : Pos) → Near u.ad → AreAlike (value_at m w u) (value_at m v u)) → (o : Option Tree) → expr_of w s ≡ o
              → AreAlike (option_and_then (value_by (value_at m w) w (frame_of_attribute s)) o)
              (option_and_then (value_by (value_at m v) v (frame_of_attribute s)) o)
          by rest None e = (refl, tt)
          by rest (Some t) e =
              let own : s.ad ≡ 0 → Unnamed t =
              λ root. quiet s.frame s.attr t (sym (ap (λ (k : ℕ). expr_at (frames_of_ad w k) s.frame s.attr) root) ∙ e) in (
                tree-same (value_at m w) (value_at m v) (λ u k. (rest u k).0) (λ u k. (rest u k).1) (frame_of_attribute s) h t own,
                tree-near (value_at m w) (value_at m v) (λ u k. (rest u k).0) (λ u k. (rest u k).1) (frame_of_attribute s) h t own,
              )

      -- ---- requirements, ranks and docks

      evaluation-same : (p : AdPlace) (k : ℕ) → Near p.ad → evaluation_at w (attribute_of p k) ≡ evaluation_at v (attribute_of p k)
      evaluation-same p k h = ap (λ (o : Option Plain). unwrap_or o error) (value_at-alike 24 (attribute_of p k) h).0

      meets-same : (p : AdPlace) → Near p.ad → meets_requirement w p ≡ meets_requirement v p
      meets-same p h =
          map_or-same (λ k. is_true (evaluation_at w (attribute_of p k))) (λ k. is_true (evaluation_at v (attribute_of p k)))
          (requirement_of (frames_of_ad w p.ad) p.frame) false (λ k. ap is_true (evaluation-same p k h))
          ∙ ap (λ (fs : List Frame). option_map_or (λ k. is_true (evaluation_at v (attribute_of p k))) (requirement_of fs p.frame) false)
          (frames-same p.ad h)

      ranks-same : (p : AdPlace) → Near p.ad → rank_by w p ≡ rank_by v p
      ranks-same p h =
          map_or-same (λ k. rank_number (evaluation_at w (attribute_of p k))) (λ k. rank_number (evaluation_at v (attribute_of p k)))
          (rank_of (frames_of_ad w p.ad) p.frame) (pos 0) (λ k. ap rank_number (evaluation-same p k h))
          ∙ ap (λ (fs : List Frame). option_map_or (λ k. rank_number (evaluation_at v (attribute_of p k))) (rank_of fs p.frame) (pos 0))
          (frames-same p.ad h)

      many-same : length xs ≡ length ys
      many-same = one ∙ sym other

      requests-same : request_side w ≡ request_side v
      requests-same = ap (λ (m : ℕ). let p : AdPlace = record { ad = 0; frame = port_frame ports m } in p) many-same

      resources-same : resource_side w ≡ resource_side v
      resources-same = ap (λ (m : ℕ). let p : AdPlace = record { ad = m; frame = 0 } in p) many-same

      pub dock-same : is_docked w ≡ is_docked v
      dock-same =
          ap (λ b. b && meets_requirement w (resource_side w)) (meets-same (request_side w) (inl refl) ∙ ap (meets_requirement v) requests-same)
          ∙ ap (λ b. meets_requirement v (request_side v) && b) (meets-same (resource_side w) (inr one) ∙ ap (meets_requirement v) resources-same)

      pub rank-same : rank_by w (request_side w) ≡ rank_by v (request_side v)
      rank-same = ranks-same (request_side w) (inl refl) ∙ ap (rank_by v) requests-same
