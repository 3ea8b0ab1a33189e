-- A conjunct has the value of its test.
use Rattle.std.proofs.Common.{◌≡◌, ℕ, suc, Bool, true, false, refl, List, Option, None, Some, option_map, if◌then◌else◌, ap, sym, ◌∙◌}
use Rattle.std.specs.Option.{option_and_then}
use Rattle.pool_text.specs.declared.language.AdPlace.{AdPlace}
use Rattle.pool_text.specs.declared.language.BinOp.{BinOp}
use Rattle.pool_text.specs.declared.language.Lit.{Lit}
use Rattle.ad_value.specs.Plain.{Plain, plain_of_lit}
use Rattle.ad_value.specs.Operators.{binary_value}
use Rattle.ad_tree.specs.declared.tree.Scope.{Scope}
use Rattle.ad_tree.specs.Tree.{Tree, node, frame, none, more, literal, name, unary, binary, all, any, choice, select, subscript, call, list}
use Rattle.ad_tree.specs.Enclosing.{enclosed_expr, expr_named}
use Rattle.ad_tree.specs.Frames.{Frame}
use Rattle.ad_tree.specs.Names.{has_name}
use Rattle.eval_scope.specs.declared.found.Found.{Found}
use Rattle.eval_scope.specs.World.{PlainWorld}
use Rattle.eval_scope.specs.Look.{enclosing, find, first_found, labels, targets}
use Rattle.eval_scope.proofs.LookLemmas.{in_beyond, in_own}
use Rattle.ad_eval.specs.Node.{named}
use Rattle.ad_eval.specs.Value.{value_at, value_with}
use Rattle.conjunct_plan.specs.declared.test.Test.{Test}
use Rattle.conjunct_plan.specs.Decided.{counted, test_value}
use Rattle.conjunct_plan.specs.Tests.{Side, constant, neither, bare_side, comparison_of, is_comparison, side_of, test_of, truth_of}
use Rattle.conjunct_plan.specs.Tests.{named as asked_of}
use Rattle.dock_match.proofs.FindLemmas.{Finds, finds-nothing, finds-something, named-counted, own-counted, own-unnamed}

-- a side of a dock: frame p of an ad with frames fs, whose ports have labels ls, and frame g of the other ad
pub record IsSide (w : PlainWorld) (p : AdPlace) (fs : List Frame) (ls : List (List ℕ)) (other : List Frame) (g : ℕ) : Type 0 where
  pub own : (x : List ℕ) → Finds w (first_found w x (enclosing w p)) (enclosed_expr fs p.frame x)
  pub root : (x : List ℕ) → Finds w (find w p Scope.My x) (expr_named fs 0 x)
  pub beyond : (x : List ℕ) → Finds w (first_found w x (targets w p.ad)) (enclosed_expr other g x)
  pub unlabelled : (x : List ℕ) → has_name x ls ≡ false → first_found w x (labels w p.ad) ≡ Found.Nothing

-- ---- what is never the same

none-test : (test : Test) → None ≡ Some test → ⊥
none-test test e = cc

none-plain : (v : Plain) → None ≡ Some v → ⊥
none-plain v e = cc

neither-constant : (lit : Lit) → neither ≡ constant lit → ⊥
neither-constant lit e = cc

neither-asked : (x : List ℕ) → neither ≡ asked_of x → ⊥
neither-asked x e = cc

constant-asked : (lit : Lit) (x : List ℕ) → constant lit ≡ asked_of x → ⊥
constant-asked lit x e = cc

asked-constant : (x : List ℕ) (lit : Lit) → asked_of x ≡ constant lit → ⊥
asked-constant x lit e = cc

option_map-itself : {A : Type 0} (o : Option A) → option_map (λ a. a) o ≡ o
option_map-itself None = refl
option_map-itself (Some a) = refl

-- ---- comparisons of what has a value

module _ (w : PlainWorld) (n : ℕ) (p : AdPlace) (other : List Frame) (g : ℕ) where
  -- an expression at p has the value of what it is, beside frame g of the other ad
  abbrev pub Means : Tree → Side → Type 0
  Means t (constant lit) = value_with (suc n) w p t ≡ Some (plain_of_lit lit)
  Means t (asked_of x) = (v : Plain) → counted (enclosed_expr other g x) ≡ Some v → value_with (suc n) w p t ≡ Some v
  Means t neither = Unit {0}

  -- two values give one
  both-values : (op : BinOp) (a b : Tree) (u v : Plain) → value_with (suc n) w p a ≡ Some u → value_with (suc n) w p b ≡ Some v
      → value_with (suc n) w p (node (binary op) (more a (more b none))) ≡ Some (binary_value op u v)
  both-values op a b u v left right =
      ap (option_and_then (λ x. option_map (binary_value op x) (value_with (suc n) w p b))) left
      ∙ ap (option_map (binary_value op u)) right

  asked-left : (op : BinOp) (a b : Tree) (x : List ℕ) (lit : Lit) (v : Plain) → Means a (asked_of x) → Means b (constant lit)
      → (o : Option Plain) → counted (enclosed_expr other g x) ≡ o → option_map (λ y. binary_value op y (plain_of_lit lit)) o ≡ Some v
      → value_with (suc n) w p (node (binary op) (more a (more b none))) ≡ Some v
  asked-left op a b x lit v left right None is e = absurd (none-plain v e)
  asked-left op a b x lit v left right (Some y) is e = both-values op a b y (plain_of_lit lit) (left y is) right ∙ e

  asked-right : (op : BinOp) (a b : Tree) (x : List ℕ) (lit : Lit) (v : Plain) → Means a (constant lit) → Means b (asked_of x)
      → (o : Option Plain) → counted (enclosed_expr other g x) ≡ o → option_map (λ y. binary_value op (plain_of_lit lit) y) o ≡ Some v
      → value_with (suc n) w p (node (binary op) (more a (more b none))) ≡ Some v
  asked-right op a b x lit v left right None is e = absurd (none-plain v e)
  asked-right op a b x lit v left right (Some y) is e = both-values op a b (plain_of_lit lit) y left (right y is) ∙ e

  -- a comparison has the value of its test
  pub comparison-value : (op : BinOp) (a b : Tree) (s t : Side) (test : Test) (v : Plain) → Means a s → Means b t
      → comparison_of op s t ≡ Some test → test_value test other g ≡ Some v
      → value_with (suc n) w p (node (binary op) (more a (more b none))) ≡ Some v
  comparison-value op a b (asked_of x) (constant lit) test v left right e has = by (is_comparison op) e
    where
      by : (c : Bool) → (if c then Some (Test.Compare x op lit true) else None) ≡ Some test
          → value_with (suc n) w p (node (binary op) (more a (more b none))) ≡ Some v
      by true h =
          let same : Test.Compare x op lit true ≡ test = cc in
          asked-left op a b x lit v left right (counted (enclosed_expr other g x)) refl (ap (λ z. test_value z other g) same ∙ has)
      by false h = absurd (cc)
  comparison-value op a b (constant lit) (asked_of x) test v left right e has = by (is_comparison op) e
    where
      by : (c : Bool) → (if c then Some (Test.Compare x op lit false) else None) ≡ Some test
          → value_with (suc n) w p (node (binary op) (more a (more b none))) ≡ Some v
      by true h =
          let same : Test.Compare x op lit false ≡ test = cc in
          asked-right op a b x lit v left right (counted (enclosed_expr other g x)) refl (ap (λ z. test_value z other g) same ∙ has)
      by false h = absurd (cc)
  comparison-value op a b (asked_of x) (asked_of y) test v left right e has = absurd (none-test test e)
  comparison-value op a b (asked_of x) neither test v left right e has = absurd (none-test test e)
  comparison-value op a b (constant lit) (constant l) test v left right e has = absurd (none-test test e)
  comparison-value op a b (constant lit) neither test v left right e has = absurd (none-test test e)
  comparison-value op a b neither (asked_of y) test v left right e has = absurd (none-test test e)
  comparison-value op a b neither (constant l) test v left right e has = absurd (none-test test e)
  comparison-value op a b neither neither test v left right e has = absurd (none-test test e)

-- ---- a side of a dock

module _ (w : PlainWorld) (n : ℕ) (p : AdPlace) (fs : List Frame) (ls : List (List ℕ)) (other : List Frame) (g : ℕ)
    (side : IsSide w p fs ls other g) where
  -- ---- what stands on a side of a test

  bare-own : (x : List ℕ) (t : Tree) (v : Plain) → enclosed_expr fs p.frame x ≡ Some t → counted (enclosed_expr fs p.frame x) ≡ Some v
      → named (value_at (suc n) w) (find w p Scope.Bare x) ≡ Some v
  bare-own x t v there counts =
      ap (named (value_at (suc n) w)) (in_own w x (enclosing w p) (labels w p.ad) (targets w p.ad)
      (finds-something w (first_found w x (enclosing w p)) (enclosed_expr fs p.frame x) t (side.own x) there))
      ∙ named-counted w n (first_found w x (enclosing w p)) (enclosed_expr fs p.frame x) v (side.own x) counts

  bare-beyond : (x : List ℕ) (v : Plain) → enclosed_expr fs p.frame x ≡ None → has_name x ls ≡ false → counted (enclosed_expr other g x) ≡ Some v
      → named (value_at (suc n) w) (find w p Scope.Bare x) ≡ Some v
  bare-beyond x v missing apart counts =
      ap (named (value_at (suc n) w)) (in_beyond w x (enclosing w p) (labels w p.ad) (targets w p.ad)
      (finds-nothing w (first_found w x (enclosing w p)) (enclosed_expr fs p.frame x) (side.own x) missing) (side.unlabelled x apart))
      ∙ named-counted w n (first_found w x (targets w p.ad)) (enclosed_expr other g x) v (side.beyond x) counts

  bare-constant : (x : List ℕ) (lit : Lit) → bare_side ls x (enclosed_expr fs p.frame x) ≡ constant lit
      → named (value_at (suc n) w) (find w p Scope.Bare x) ≡ Some (plain_of_lit lit)
  bare-constant x lit e = by (enclosed_expr fs p.frame x) refl e
    where
      unnamed : (b : Bool) → (if b then neither else asked_of x) ≡ constant lit → ⊥
      unnamed true h = cc
      unnamed false h = cc

      by : (o : Option Tree) → enclosed_expr fs p.frame x ≡ o → bare_side ls x o ≡ constant lit
          → named (value_at (suc n) w) (find w p Scope.Bare x) ≡ Some (plain_of_lit lit)
      by None is h = absurd (unnamed (has_name x ls) h)
      by (Some t) is h = bare-own x t (plain_of_lit lit) is (ap counted is ∙ own-counted (Some t) lit h)

  bare-asked : (x y : List ℕ) (v : Plain) → bare_side ls y (enclosed_expr fs p.frame y) ≡ asked_of x → counted (enclosed_expr other g x) ≡ Some v
      → named (value_at (suc n) w) (find w p Scope.Bare y) ≡ Some v
  bare-asked x y v e counts = by (enclosed_expr fs p.frame y) refl e
    where
      beyond : enclosed_expr fs p.frame y ≡ None → (b : Bool) → has_name y ls ≡ b → (if b then neither else asked_of y) ≡ asked_of x
          → named (value_at (suc n) w) (find w p Scope.Bare y) ≡ Some v
      beyond is true labelled h = absurd (cc)
      beyond is false apart h = let same : y ≡ x = cc in bare-beyond y v is apart (ap (λ z. counted (enclosed_expr other g z)) same ∙ counts)

      by : (o : Option Tree) → enclosed_expr fs p.frame y ≡ o → bare_side ls y o ≡ asked_of x
          → named (value_at (suc n) w) (find w p Scope.Bare y) ≡ Some v
      by None is h = beyond is (has_name y ls) refl h
      by (Some t) is h = absurd (own-unnamed (Some t) x h)

  -- a constant has its literal's value
  constant-value : (t : Tree) (lit : Lit) → side_of fs p.frame ls t ≡ constant lit → value_with (suc n) w p t ≡ Some (plain_of_lit lit)
  constant-value (node (literal l) ts) lit e = let same : l ≡ lit = cc in ap (λ x. Some (plain_of_lit x)) same
  constant-value (node (name Scope.Target x) ts) lit e = absurd (asked-constant x lit e)
  constant-value (node (name Scope.My x) ts) lit e =
      named-counted w n (find w p Scope.My x) (expr_named fs 0 x) (plain_of_lit lit) (side.root x) (own-counted (expr_named fs 0 x) lit e)
  constant-value (node (name Scope.Bare x) ts) lit e = bare-constant x lit e
  constant-value (node (unary op) ts) lit e = absurd (neither-constant lit e)
  constant-value (node (binary op) ts) lit e = absurd (neither-constant lit e)
  constant-value (node all ts) lit e = absurd (neither-constant lit e)
  constant-value (node any ts) lit e = absurd (neither-constant lit e)
  constant-value (node choice ts) lit e = absurd (neither-constant lit e)
  constant-value (node (select x) ts) lit e = absurd (neither-constant lit e)
  constant-value (node subscript ts) lit e = absurd (neither-constant lit e)
  constant-value (node (call x) ts) lit e = absurd (neither-constant lit e)
  constant-value (node list ts) lit e = absurd (neither-constant lit e)
  constant-value (frame f) lit e = absurd (neither-constant lit e)

  -- an attribute of the other side has the value of what it counts as
  asked-value : (t : Tree) (x : List ℕ) (v : Plain) → side_of fs p.frame ls t ≡ asked_of x → counted (enclosed_expr other g x) ≡ Some v
      → value_with (suc n) w p t ≡ Some v
  asked-value (node (literal l) ts) x v e counts = absurd (constant-asked l x e)
  asked-value (node (name Scope.Target y) ts) x v e counts =
      let same : y ≡ x = cc in
      named-counted w n (find w p Scope.Target y) (enclosed_expr other g y) v (side.beyond y) (ap (λ z. counted (enclosed_expr other g z)) same ∙ counts)
  asked-value (node (name Scope.My y) ts) x v e counts = absurd (own-unnamed (expr_named fs 0 y) x e)
  asked-value (node (name Scope.Bare y) ts) x v e counts = bare-asked x y v e counts
  asked-value (node (unary op) ts) x v e counts = absurd (neither-asked x e)
  asked-value (node (binary op) ts) x v e counts = absurd (neither-asked x e)
  asked-value (node all ts) x v e counts = absurd (neither-asked x e)
  asked-value (node any ts) x v e counts = absurd (neither-asked x e)
  asked-value (node choice ts) x v e counts = absurd (neither-asked x e)
  asked-value (node (select y) ts) x v e counts = absurd (neither-asked x e)
  asked-value (node subscript ts) x v e counts = absurd (neither-asked x e)
  asked-value (node (call y) ts) x v e counts = absurd (neither-asked x e)
  asked-value (node list ts) x v e counts = absurd (neither-asked x e)
  asked-value (frame f) x v e counts = absurd (neither-asked x e)

  -- ---- tests

  truth-value : (t : Tree) (s : Side) (test : Test) (v : Plain) → side_of fs p.frame ls t ≡ s → truth_of s ≡ Some test
      → test_value test other g ≡ Some v → value_with (suc n) w p t ≡ Some v
  truth-value t (asked_of x) test v is e has =
      let same : Test.Truth x ≡ test = cc in
      asked-value t x v is (sym (option_map-itself (counted (enclosed_expr other g x))) ∙ ap (λ z. test_value z other g) same ∙ has)
  truth-value t (constant lit) test v is e has = absurd (none-test test e)
  truth-value t neither test v is e has = absurd (none-test test e)

  -- so it has the value of what it is
  pub means-side : (t : Tree) (s : Side) → side_of fs p.frame ls t ≡ s → Means w n p other g t s
  means-side t (asked_of x) is = λ v counts. asked-value t x v is counts
  means-side t (constant lit) is = constant-value t lit is
  means-side t neither is = tt

  -- where a test has a value, its conjunct has that value
  pub conjunct-value : (t : Tree) (test : Test) (v : Plain) → test_of fs p.frame ls t ≡ Some test → test_value test other g ≡ Some v
      → value_with (suc n) w p t ≡ Some v
  conjunct-value (node (literal l) ts) test v e has = truth-value (node (literal l) ts) (side_of fs p.frame ls (node (literal l) ts)) test v refl e has
  conjunct-value (node (name s x) ts) test v e has = truth-value (node (name s x) ts) (side_of fs p.frame ls (node (name s x) ts)) test v refl e has
  conjunct-value (node (unary op) ts) test v e has = absurd (none-test test e)
  conjunct-value (node (binary op) none) test v e has = absurd (none-test test e)
  conjunct-value (node (binary op) (more a none)) test v e has = absurd (none-test test e)
  conjunct-value (node (binary op) (more a (more b none))) test v e has =
      comparison-value w n p other g op a b (side_of fs p.frame ls a) (side_of fs p.frame ls b) test v
      (means-side a (side_of fs p.frame ls a) refl) (means-side b (side_of fs p.frame ls b) refl) e has
  conjunct-value (node (binary op) (more a (more b (more c ts)))) test v e has = absurd (none-test test e)
  conjunct-value (node all ts) test v e has = absurd (none-test test e)
  conjunct-value (node any ts) test v e has = absurd (none-test test e)
  conjunct-value (node choice ts) test v e has = absurd (none-test test e)
  conjunct-value (node (select x) ts) test v e has = absurd (none-test test e)
  conjunct-value (node subscript ts) test v e has = absurd (none-test test e)
  conjunct-value (node (call x) ts) test v e has = absurd (none-test test e)
  conjunct-value (node list ts) test v e has = absurd (none-test test e)
  conjunct-value (frame f) test v e has = absurd (none-test test e)
