-- Tests by what is docked already.
use Rattle.std.proofs.Common.{◌≡◌, ◌<◌, ◌+◌, ℕ, zero, suc, Bool, true, false, ◌&&◌, cond, refl, List, [], ◌∷◌, ◌++◌, length, slice_get, unwrap_or}
use Rattle.std.proofs.Common.{Bor, Option, None, Some, get_or, map, take, ap, sym, ◌∙◌, subst, arith}
use Rattle.std.proofs.lemmas.List.Elements.{filter_map-append}
use Rattle.std.proofs.lemmas.List.{length-append, map_more}
use Rattle.std.specs.Option.{option_and_then, option_or}
use Rattle.std.specs.List.{cons_option, filter_map}
use Rattle.pool_text.specs.declared.language.AdPlace.{AdPlace}
use Rattle.pool_text.specs.declared.language.BinOp.{BinOp}
use Rattle.pool_text.specs.declared.language.Lit.{Lit}
use Rattle.ad_value.specs.Demands.{selected}
use Rattle.ad_value.specs.Plain.{Plain, plain_of_lit}
use Rattle.ad_tree.specs.declared.request.Port.{Port}
use Rattle.ad_tree.specs.declared.tree.Expr.{Expr}
use Rattle.ad_tree.specs.declared.tree.Scope.{Scope}
use Rattle.ad_tree.specs.Enclosing.{enclosed_expr, expr_named}
use Rattle.ad_tree.specs.Frames.{Frame}
use Rattle.ad_tree.specs.Names.{same_name}
use Rattle.ad_tree.specs.Tree.{Tree, node, frame, none, more, literal, name, unary, binary, all, any, choice, select, subscript, call, list, tree}
use Rattle.eval_scope.specs.declared.found.Found.{Found}
use Rattle.eval_scope.specs.Look.{enclosing, enclosing_any, find, first_found, found_attribute, attribute_in, labels, labels_from, or_else, targets}
use Rattle.eval_scope.specs.World.{PlainWorld, frames_of_ad, next_side, port_frame, request_side, resource_side, target, with_docked}
use Rattle.eval_scope.proofs.LookLemmas.{first_found-append}
use Rattle.ad_eval.specs.Dock.{is_docked, meets_requirement}
use Rattle.ad_eval.specs.Node.{attribute_value, named}
use Rattle.ad_eval.specs.Value.{value_at, value_with}
use Rattle.conjunct_plan.specs.declared.test.Test.{Test}
use Rattle.conjunct_plan.specs.Decided.{counted, is_decided, test_value}
use Rattle.conjunct_plan.specs.Tests.{comparison_of, constant, labels_of}
use Rattle.dock_match.specs.Late.{bare_name, docked_literal, is_ruled_out, late_test, late_test_of, late_tests, literal_counted, literal_in, next_operand}
use Rattle.dock_match.proofs.DecidedLemmas.{none-met, none-true, request-sees}
use Rattle.dock_match.proofs.DockingLemmas.{last-docked}
use Rattle.dock_match.proofs.FindLemmas.{Finds, finds-enclosed, finds-here, finds-nothing, named-counted}
use Rattle.dock_match.proofs.TestLemmas.{IsSide, Means, comparison-value, means-side}

-- ---- conjuncts one after another

-- the tests among the conjuncts so far, with that of the next one
pub tests-next : (F : Tree → Option Test) (items : List (Bor Expr)) (i : ℕ) (item : Bor Expr) (so_far new : List Test) (found : Option Test)
    → i < length items → item ≡ get_or items i item → so_far ≡ filter_map F (map (λ e. tree e.now) (take i items)) → found ≡ F (tree item.now)
    → new ≡ so_far ++ cons_option found [] → new ≡ filter_map F (map (λ e. tree e.now) (take (i + 1) items))
tests-next F items i item so_far new found within at are is added =
    added
    ∙ ap (λ (ts : List Test). ts ++ cons_option found []) are
    ∙ ap (λ (o : Option Test). filter_map F (map (λ (e : Bor Expr). tree e.now) (take i items)) ++ cons_option o [])
    (is ∙ ap (λ (e : Bor Expr). F (tree e.now)) at)
    ∙ sym (filter_map-append F (map (λ (e : Bor Expr). tree e.now) (take i items)) (tree (get_or items i item).now ∷ []))
    ∙ sym (ap (filter_map F) (map_more (λ (e : Bor Expr). tree e.now) items i item within))

-- ---- what a label finds

nothing-placed : (place : AdPlace) → Found.Nothing ≡ Found.Place place → ⊥
nothing-placed place e = cc

-- a label among those of the docked ports stands for a docked ad
abbrev Stands : ℕ → ℕ → AdPlace → Type 0
Stands k many place = (i : ℕ) × (place.ad ≡ k + i) × (i < many)

module _ (w v : PlainWorld) (x : List ℕ) (ad : List Frame) where
  -- and for the same ad once one more is docked
  label-stays : (k : ℕ) (ports : List Port) (docked : List (List Frame)) (place : AdPlace) → first_found w x (labels_from k ports docked) ≡ Found.Place place
      → (first_found v x (labels_from k ports (docked ++ ad ∷ [])) ≡ Found.Place place) × Stands k (length docked) place
  label-stays k [] docked place e = absurd (nothing-placed place e)
  label-stays k (port ∷ ports) [] place e = absurd (nothing-placed place e)
  label-stays k (port ∷ ports) (fs ∷ docked) place e = by (λ h. label-stays (suc k) ports docked place h) (same_name x port.label) refl e
    where
      rest : Found
      rest = first_found v x (labels_from (suc k) ports (docked ++ ad ∷ []))

      by : (first_found w x (labels_from (suc k) ports docked) ≡ Found.Place place → (rest ≡ Found.Place place) × Stands (suc k) (length docked) place)
          → (b : Bool) → same_name x port.label ≡ b
          → or_else (cond b (Found.Place (record { ad = k; frame = 0 })) Found.Nothing) (first_found w x (labels_from (suc k) ports docked)) ≡ Found.Place place
          → (or_else (cond (same_name x port.label) (Found.Place (record { ad = k; frame = 0 })) Found.Nothing) rest ≡ Found.Place place)
          × Stands k (suc (length docked)) place
      by behind true is h =
          let here : k ≡ place.ad = ap ad_of h in (
            ap (λ b. or_else (cond b (Found.Place (record { ad = k; frame = 0 })) Found.Nothing) rest) is ∙ h,
            (0, omega (arith, here), omega arith),
          )
        where
          ad_of : Found → ℕ
          ad_of (Found.Place p) = p.ad
          ad_of found = 0
      by behind false is h =
          let later = behind h in (
            ap (λ b. or_else (cond b (Found.Place (record { ad = k; frame = 0 })) Found.Nothing) rest) is ∙ later.0,
            (suc later.1.0, omega (arith, later.1.1), omega (arith, later.1.2)),
          )

-- the parts of a look-up of a bare name, of which only the labels give a place
module _ (own label other : Found) (place : AdPlace) where
  abbrev Looked : Type 0
  Looked = or_else own (or_else label other) ≡ Found.Place place

  by-label : (own ≡ Found.Place place → ⊥) → (other ≡ Found.Place place → ⊥) → Looked → (own ≡ Found.Nothing) × (label ≡ Found.Place place)
  by-label = by own label
    where
      by : (a b : Found) → (a ≡ Found.Place place → ⊥) → (other ≡ Found.Place place → ⊥) → or_else a (or_else b other) ≡ Found.Place place
          → (a ≡ Found.Nothing) × (b ≡ Found.Place place)
      by Found.Nothing Found.Nothing apart never e = absurd (never e)
      by Found.Nothing (Found.Place p) apart never e = (refl, e)
      by Found.Nothing (Found.Attr s) apart never e = (refl, e)
      by (Found.Place p) b apart never e = absurd (apart e)
      by (Found.Attr s) b apart never e = absurd (apart e)

no-place : (w : PlainWorld) (found : Found) (t : Option Tree) (place : AdPlace) → Finds w found t → found ≡ Found.Place place → ⊥
no-place w Found.Nothing t place h e = cc
no-place w (Found.Attr s) t place h e = cc
no-place w (Found.Place p) t place h e = h

parts : (w : PlainWorld) (p : AdPlace) (x : List ℕ)
    → find w p Scope.Bare x
    ≡ or_else (first_found w x (enclosing w p)) (or_else (first_found w x (labels w p.ad)) (first_found w x (targets w p.ad)))
parts w p x =
    first_found-append w x (enclosing w p) (labels w p.ad ++ targets w p.ad)
    ∙ ap (or_else (first_found w x (enclosing w p))) (first_found-append w x (labels w p.ad) (targets w p.ad))

no-place-beyond : (w : PlainWorld) (x : List ℕ) (place : AdPlace) → first_found w x (targets w 0) ≡ Found.Place place → ⊥
no-place-beyond w x place = by (target w 0)
  where
    by : (o : Option AdPlace) → first_found w x (enclosing_any w o) ≡ Found.Place place → ⊥
    by None e = nothing-placed place e
    by (Some p) e = no-place w (first_found w x (enclosing w p)) (enclosed_expr (frames_of_ad w p.ad) p.frame x) place (finds-enclosed w p x) e

-- ---- one more ad is docked

push-before : (xs : List (List Frame)) (y : List Frame) (i : ℕ) → i < length xs → slice_get (xs ++ y ∷ []) i ≡ slice_get xs i
push-before [] y i within = absurd (omega (arith, within))
push-before (x ∷ xs) y zero within = refl
push-before (x ∷ xs) y (suc i) within = push-before xs y i (omega (arith, within))

module _ (w : PlainWorld) (ad : List Frame) where
  abbrev deeper : PlainWorld
  deeper = with_docked w ad

  longer : length (w.docked ++ ad ∷ []) ≡ suc (length w.docked)
  longer = omega (arith, length-append w.docked (ad ∷ []))

  pub next-docked : request_side deeper ≡ next_side w
  next-docked = ap (λ k. record { ad = 0; frame = port_frame w.ports k }) longer

  same-ad : (place : AdPlace) → Stands 1 (length w.docked) place → frames_of_ad deeper place.ad ≡ frames_of_ad w place.ad
  same-ad place stands =
      let at : place.ad ≡ suc stands.0 = omega (arith, stands.1) in
      ap (frames_of_ad deeper) at ∙ ap (λ o. unwrap_or o []) (push-before w.docked ad stands.0 stands.2) ∙ sym (ap (frames_of_ad w) at)

  -- a name of the next port that is a label stands for the same docked ad
  found-stays : (x : List ℕ) (place : AdPlace) → find w (next_side w) Scope.Bare x ≡ Found.Place place
      → (find deeper (next_side w) Scope.Bare x ≡ Found.Place place) × Stands 1 (length w.docked) place
  found-stays x place e =
      let own = finds-enclosed w (next_side w) x in
      let named_so = by-label (first_found w x (enclosing w (next_side w))) (first_found w x (labels w 0)) (first_found w x (targets w 0)) place
      (no-place w (first_found w x (enclosing w (next_side w))) (enclosed_expr w.request (next_side w).frame x) place own) (no-place-beyond w x place)
      (sym (parts w (next_side w) x) ∙ e) in
      let missing : enclosed_expr w.request (next_side w).frame x ≡ None =
      subst (λ (found : Found). Finds w found (enclosed_expr w.request (next_side w).frame x)) named_so.0 own in
      let stays = label-stays w deeper x ad 1 w.ports w.docked place named_so.1 in
      let hidden = finds-nothing deeper (first_found deeper x (enclosing deeper (next_side w))) (enclosed_expr w.request (next_side w).frame x)
      (finds-enclosed deeper (next_side w) x) missing in (
        parts deeper (next_side w) x
            ∙ ap (λ found. or_else found (or_else (first_found deeper x (labels deeper 0)) (first_found deeper x (targets deeper 0)))) hidden
            ∙ ap (λ found. or_else found (first_found deeper x (targets deeper 0))) stays.0,
        stays.1,
      )

  -- ---- values

  module _ (n : ℕ) where
    counts : (o : Option Tree) (lit : Lit) → literal_counted o ≡ Some lit → counted o ≡ Some (plain_of_lit lit)
    counts None lit e = let same : Lit.Undefined ≡ lit = cc in ap (λ l. Some (plain_of_lit l)) same
    counts (Some (node (literal l) ts)) lit e = let same : l ≡ lit = cc in ap (λ x. Some (plain_of_lit x)) same
    counts (Some (node (name scope x) ts)) lit e = absurd (cc)
    counts (Some (node (unary op) ts)) lit e = absurd (cc)
    counts (Some (node (binary op) ts)) lit e = absurd (cc)
    counts (Some (node all ts)) lit e = absurd (cc)
    counts (Some (node any ts)) lit e = absurd (cc)
    counts (Some (node choice ts)) lit e = absurd (cc)
    counts (Some (node (select x) ts)) lit e = absurd (cc)
    counts (Some (node subscript ts)) lit e = absurd (cc)
    counts (Some (node (call x) ts)) lit e = absurd (cc)
    counts (Some (node list ts)) lit e = absurd (cc)
    counts (Some (frame f)) lit e = absurd (cc)

    -- an attribute of a docked ad
    attribute-is : (x : List ℕ) (lit : Lit) (place : AdPlace) → Stands 1 (length w.docked) place → literal_in w x (Found.Place place) ≡ Some lit
        → attribute_value (value_at (suc n) deeper) deeper place x ≡ Some (plain_of_lit lit)
    attribute-is x lit place stands e =
        named-counted deeper n (found_attribute (attribute_in deeper place x)) (expr_named (frames_of_ad deeper place.ad) place.frame x) (plain_of_lit lit)
        (finds-here deeper place x)
        (counts (expr_named (frames_of_ad deeper place.ad) place.frame x) lit
        (ap (λ (fs : List Frame). literal_counted (expr_named fs place.frame x)) (same-ad place stands) ∙ e))

    abbrev chosen : List ℕ → Found → Option Plain
    chosen x found = option_and_then (selected (attribute_value (value_at (suc n) deeper) deeper) x) (named (value_at (suc n) deeper) found)

    selection-value : (x label : List ℕ) (lit : Lit) (found : Found) → find w (next_side w) Scope.Bare label ≡ found → literal_in w x found ≡ Some lit
        → chosen x (find deeper (next_side w) Scope.Bare label) ≡ Some (plain_of_lit lit)
    selection-value x label lit Found.Nothing is e = absurd (cc)
    selection-value x label lit (Found.Attr s) is e = absurd (cc)
    selection-value x label lit (Found.Place place) is e =
        let stays = found-stays label place is in ap (chosen x) stays.0 ∙ attribute-is x lit place stays.1 e

    abbrev Value : Tree → Plain → Type 0
    Value t v = value_with (suc n) deeper (next_side w) t ≡ Some v

    base-value : (x : List ℕ) (a : Tree) (lit : Lit)
        → option_and_then (λ label. literal_in w x (find w (next_side w) Scope.Bare label)) (bare_name a) ≡ Some lit
        → Value (node (select x) (more a none)) (plain_of_lit lit)
    base-value x (node (name Scope.Bare label) ts) lit e = selection-value x label lit (find w (next_side w) Scope.Bare label) refl e
    base-value x (node (name Scope.My label) ts) lit e = absurd (cc)
    base-value x (node (name Scope.Target label) ts) lit e = absurd (cc)
    base-value x (node (literal l) ts) lit e = absurd (cc)
    base-value x (node (unary op) ts) lit e = absurd (cc)
    base-value x (node (binary op) ts) lit e = absurd (cc)
    base-value x (node all ts) lit e = absurd (cc)
    base-value x (node any ts) lit e = absurd (cc)
    base-value x (node choice ts) lit e = absurd (cc)
    base-value x (node (select y) ts) lit e = absurd (cc)
    base-value x (node subscript ts) lit e = absurd (cc)
    base-value x (node (call y) ts) lit e = absurd (cc)
    base-value x (node list ts) lit e = absurd (cc)
    base-value x (frame f) lit e = absurd (cc)

    -- a docked literal has its value
    docked-value : (t : Tree) (lit : Lit) → docked_literal w t ≡ Some lit → Value t (plain_of_lit lit)
    docked-value (node (select x) (more a none)) lit e = base-value x a lit e
    docked-value (node (select x) none) lit e = absurd (cc)
    docked-value (node (select x) (more a (more b ts))) lit e = absurd (cc)
    docked-value (node (literal l) ts) lit e = absurd (cc)
    docked-value (node (name scope x) ts) lit e = absurd (cc)
    docked-value (node (unary op) ts) lit e = absurd (cc)
    docked-value (node (binary op) ts) lit e = absurd (cc)
    docked-value (node all ts) lit e = absurd (cc)
    docked-value (node any ts) lit e = absurd (cc)
    docked-value (node choice ts) lit e = absurd (cc)
    docked-value (node subscript ts) lit e = absurd (cc)
    docked-value (node (call x) ts) lit e = absurd (cc)
    docked-value (node list ts) lit e = absurd (cc)
    docked-value (frame f) lit e = absurd (cc)

    -- what the request alone says of an expression holds there too
    sees : IsSide deeper (next_side w) w.request (labels_of w.ports) ad 0
    sees =
        let some : 0 < length deeper.docked = omega (arith, longer) in
        subst (λ (p : AdPlace). IsSide deeper p w.request (labels_of w.ports) ad 0) next-docked
        (subst (λ (fs : List Frame). IsSide deeper (request_side deeper) w.request (labels_of w.ports) fs 0) (last-docked w ad) (request-sees deeper some))

    operand-means : (t : Tree) → Means deeper n (next_side w) ad 0 t (next_operand w t)
    operand-means t = means-side deeper n (next_side w) w.request (labels_of w.ports) ad 0 sees t (next_operand w t) refl

    module _ (op : BinOp) (a b : Tree) (test : Test) (v : Plain) (has : test_value test ad 0 ≡ Some v) where
      abbrev Both : Type 0
      Both = Value (node (binary op) (more a (more b none))) v

      on-left : (o : Option Lit) → docked_literal w a ≡ o → option_and_then (λ lit. comparison_of op (constant lit) (next_operand w b)) o ≡ Some test → Both
      on-left None is e = absurd (cc)
      on-left (Some lit) is e =
          comparison-value deeper n (next_side w) ad 0 op a b (constant lit) (next_operand w b) test v (docked-value a lit is) (operand-means b) e has

      on-right : (o : Option Lit) → docked_literal w b ≡ o → option_and_then (λ lit. comparison_of op (next_operand w a) (constant lit)) o ≡ Some test → Both
      on-right None is e = absurd (cc)
      on-right (Some lit) is e =
          comparison-value deeper n (next_side w) ad 0 op a b (next_operand w a) (constant lit) test v (operand-means a) (docked-value b lit is) e has

      compared-value : late_test_of w op a b ≡ Some test → Both
      compared-value =
          by (option_and_then (λ lit. comparison_of op (constant lit) (next_operand w b)) (docked_literal w a))
          (option_and_then (λ lit. comparison_of op (next_operand w a) (constant lit)) (docked_literal w b))
          (on-left (docked_literal w a) refl) (on-right (docked_literal w b) refl)
        where
          by : (x y : Option Test) → (x ≡ Some test → Both) → (y ≡ Some test → Both) → option_or x y ≡ Some test → Both
          by (Some t) y left right e = left e
          by None y left right e = right e

    -- where a late test has a value, its conjunct has that value once the ad is docked
    pub late-value : (t : Tree) (test : Test) (v : Plain) → late_test w t ≡ Some test → test_value test ad 0 ≡ Some v → Value t v
    late-value (node (binary op) (more a (more b none))) test v e has = compared-value op a b test v has e
    late-value (node (binary op) none) test v e has = absurd (cc)
    late-value (node (binary op) (more a none)) test v e has = absurd (cc)
    late-value (node (binary op) (more a (more b (more c ts)))) test v e has = absurd (cc)
    late-value (node (literal l) ts) test v e has = absurd (cc)
    late-value (node (name scope x) ts) test v e has = absurd (cc)
    late-value (node (unary op) ts) test v e has = absurd (cc)
    late-value (node all ts) test v e has = absurd (cc)
    late-value (node any ts) test v e has = absurd (cc)
    late-value (node choice ts) test v e has = absurd (cc)
    late-value (node (select x) ts) test v e has = absurd (cc)
    late-value (node subscript ts) test v e has = absurd (cc)
    late-value (node (call x) ts) test v e has = absurd (cc)
    late-value (node list ts) test v e has = absurd (cc)
    late-value (frame f) test v e has = absurd (cc)

  -- the dock isn't true of an ad that late tests rule out
  pub ruled-undocked : is_ruled_out (late_tests w) ad ≡ true → is_docked deeper ≡ false
  ruled-undocked ruled = by (meets_requirement deeper (request_side deeper)) refl
    where
      never : meets_requirement deeper (next_side w) ≡ true → ⊥
      never =
          none-met deeper (next_side w) (late_test w) (λ test. is_decided test ad 0)
          (λ t test is decided holds. none-true deeper (next_side w) 22 t test ad 0 (λ v has. late-value 22 t test v is has) decided holds) ruled

      by : (b : Bool) → meets_requirement deeper (request_side deeper) ≡ b → (b && meets_requirement deeper (resource_side deeper)) ≡ false
      by true met = absurd (never (subst (λ (p : AdPlace). meets_requirement deeper p ≡ true) next-docked met))
      by false met = refl
