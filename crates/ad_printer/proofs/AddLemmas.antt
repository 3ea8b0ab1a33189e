-- Texts that grow by pieces.
use Rattle.std.proofs.Common.{◌≡◌, ℕ, zero, suc, ◌+◌, ◌-◌, ◌<◌, ◌≤◌, List, [], ◌∷◌, ◌++◌, codes, length, drop, slice_get}
use Rattle.std.proofs.Common.{Option, None, Some, option_map, Result, Ok, Err, OnOk, refl, sym, ◌∙◌, ap, subst, arith, append_assoc, append-nil, add-one}
use Rattle.std.proofs.Math.ListN.{drop_of_length-le}
use Rattle.std.proofs.lemmas.Option.{slice_get_past}
use Rattle.ad_lexer.specs.Tokens.{Item, blank, token}
use Rattle.ad_lexer.specs.declared.token.TokenKind.TheVariants as kinds
use Rattle.ad_tree.specs.Frames.{Frame, attributes_in, attributes_at}
use Rattle.ad_tree.specs.Inline.{inner, Defs, no_defs, inlined_all, inside, opened, defs_of}
use Rattle.ad_tree.specs.Tree.{Tree, node, all, any, call, list, pack, size}
use Rattle.ad_tree.proofs.Measures.{attributes_size, attributes_size-at, weight, weight-at}
use Rattle.ad_printer.specs.Pieces.{text_of, space, symbol, spaced, then_space, behind, divided, enclosed}
use Rattle.ad_printer.specs.Printed.{pieces, operands, definition_pieces}
use Rattle.ad_printer.specs.Writing.{Adds, part_in, pieces_in, row_in, definition_in, definitions_in}
use Rattle.ad_printer.proofs.StandLemmas.{text_of-append}

pub adds_both : (before middle after : List ℕ) (xs ys : List Item) → Adds before xs middle → Adds middle ys after → Adds before (xs ++ ys) after
adds_both before middle after xs ys a b = record {
  grown =
      b.grown ∙ ap (λ (t : List ℕ). t ++ text_of ys) a.grown ∙ append_assoc before (text_of xs) (text_of ys)
      ∙ ap (λ (t : List ℕ). before ++ t) (sym (text_of-append xs ys));
}

pub adds_then : (before middle after : List ℕ) (xs ys : List Item) → Adds before xs middle → after ≡ middle ++ text_of ys
    → Adds before (xs ++ ys) after
adds_then before middle after xs ys a is = adds_both before middle after xs ys a (record { grown = is })

pub adds_after : (before middle after : List ℕ) (xs ys : List Item) → middle ≡ before ++ text_of xs → Adds middle ys after
    → Adds before (xs ++ ys) after
adds_after before middle after xs ys is b = adds_both before middle after xs ys (record { grown = is }) b

-- pieces between others
pub adds_within : (before one two after : List ℕ) (left xs right : List Item) → one ≡ before ++ text_of left → Adds one xs two
    → after ≡ two ++ text_of right → Adds before (left ++ (xs ++ right)) after
adds_within before one two after left xs right is a same = adds_after before one after left (xs ++ right) is (adds_then one two after xs right a same)

-- ---- rows

-- what divides a row counts by its bytes alone
behind-bytes : (d e : List Item) (ps : List (List Item)) → text_of d ≡ text_of e → text_of (behind d ps) ≡ text_of (behind e ps)
behind-bytes d e [] same = refl
behind-bytes d e (p ∷ ps) same =
    text_of-append d (p ++ behind d ps)
    ∙ ap (λ (t : List ℕ). t ++ text_of (p ++ behind d ps)) same
    ∙ ap (λ (t : List ℕ). text_of e ++ t) (text_of-append p (behind d ps) ∙ ap (λ (t : List ℕ). text_of p ++ t) (behind-bytes d e ps same)
    ∙ sym (text_of-append p (behind e ps)))
    ∙ sym (text_of-append e (p ++ behind e ps))

divided-bytes : (d e : List Item) (ps : List (List Item)) → text_of d ≡ text_of e → text_of (divided d ps) ≡ text_of (divided e ps)
divided-bytes d e [] same = refl
divided-bytes d e (p ∷ ps) same =
    text_of-append p (behind d ps) ∙ ap (λ (t : List ℕ). text_of p ++ t) (behind-bytes d e ps same) ∙ sym (text_of-append p (behind e ps))

pub adds_row : (before after : List ℕ) (d e : List Item) (ps : List (List Item)) → text_of d ≡ text_of e → Adds before (divided d ps) after
    → Adds before (divided e ps) after
adds_row before after d e ps same a = record { grown = a.grown ∙ ap (λ (t : List ℕ). before ++ t) (divided-bytes d e ps same) }

-- one element more
pub step_text : (out middle new : List ℕ) (d p : List Item) (ps : List (List Item)) → middle ≡ out ++ text_of d → Adds middle p new
    → new ++ text_of (behind d ps) ≡ out ++ text_of (behind d (p ∷ ps))
step_text out middle new d p ps is a =
    let both : Adds out (d ++ p) new = adds_after out middle new d p is a in
    ap (λ (t : List ℕ). t ++ text_of (behind d ps)) (both.grown ∙ ap (λ (t : List ℕ). out ++ t) (text_of-append d p))
    ∙ append_assoc out (text_of d ++ text_of p) (text_of (behind d ps))
    ∙ ap (λ (t : List ℕ). out ++ t) (append_assoc (text_of d) (text_of p) (text_of (behind d ps))
    ∙ ap (λ (t : List ℕ). text_of d ++ t) (sym (text_of-append p (behind d ps))) ∙ sym (text_of-append d (p ++ behind d ps)))

-- the first of a row and the others behind it
pub adds_first : (before middle after : List ℕ) (d p : List Item) (ps : List (List Item)) → Adds before p middle
    → after ≡ middle ++ text_of (behind d ps) → Adds before (divided d (p ∷ ps)) after
adds_first before middle after d p ps a is = adds_then before middle after p (behind d ps) a is

-- ---- lists of trees

drop-at : {A : Type 0} (xs : List A) (i : ℕ) (x : A) → slice_get xs i ≡ Some x → drop i xs ≡ x ∷ drop (i + 1) xs
drop-at xs i x is = by xs i is ∙ ap (λ (n : ℕ). x ∷ drop n xs) (sym (add-one i))
  where
    by : (ys : List _) (k : ℕ) → slice_get ys k ≡ Some x → drop k ys ≡ x ∷ drop (suc k) ys
    by [] k e = absurd (cc)
    by (y ∷ ys) zero e = let same : y ≡ x = cc in ap (λ z. z ∷ ys) same
    by (y ∷ ys) (suc k) e = by ys k e

module _ (fs : List Frame) (turns : ℕ) where
  -- what is left of a row from a place on
  abbrev pub rest_of_row : List Item → ℕ → List Tree → List ℕ
  rest_of_row d k ts = text_of (behind d (operands k k (inlined_all (inside fs turns) (pack ts))))

  pub row_step : (d : List Item) (k : ℕ) (ts : List Tree) (i : ℕ) (t : Tree) (out middle new start : List ℕ) → slice_get ts i ≡ Some t
      → middle ≡ out ++ text_of d → Adds middle (part_in fs turns k t) new
      → out ++ rest_of_row d k (drop i ts) ≡ start → new ++ rest_of_row d k (drop (i + 1) ts) ≡ start
  row_step d k ts i t out middle new start at is a left =
      step_text out middle new d (part_in fs turns k t) (operands k k (inlined_all (inside fs turns) (pack (drop (i + 1) ts)))) is a
      ∙ ap (λ (us : List Tree). out ++ rest_of_row d k us) (sym (drop-at ts i t at)) ∙ left

  -- what is left of definitions from a place on
  abbrev pub rest_of_definitions : List Item → List (List ℕ × Tree) → List ℕ
  rest_of_definitions d attributes = text_of (behind d (definition_pieces (defs_of (inside fs turns) attributes)))

  attribute_at : (o : Option (List ℕ × Tree)) (text : List ℕ) (t : Tree) → option_map (λ a. a.0) o ≡ Some text → option_map (λ a. a.1) o ≡ Some t
      → o ≡ Some (text, t)
  attribute_at None text t a b = absurd (cc)
  attribute_at (Some p) text t a b =
      let x : p.0 ≡ text = cc in let y : p.1 ≡ t = cc in ap (λ (n : List ℕ). Some (n, p.1)) x ∙ ap (λ u. Some (text, u)) y

  pub definition_step : (d : List Item) (attributes : List (List ℕ × Tree)) (i : ℕ) (text : List ℕ) (t : Tree) (out middle new start : List ℕ)
      → option_map (λ a. a.0) (slice_get attributes i) ≡ Some text → option_map (λ a. a.1) (slice_get attributes i) ≡ Some t
      → middle ≡ out ++ text_of d → Adds middle (definition_in fs turns text t) new → out ++ rest_of_definitions d (drop i attributes) ≡ start
      → new ++ rest_of_definitions d (drop (i + 1) attributes) ≡ start
  definition_step d attributes i text t out middle new start name value is a left =
      step_text out middle new d (definition_in fs turns text t) (definition_pieces (defs_of (inside fs turns) (drop (i + 1) attributes))) is a
      ∙ ap (λ (rest : List (List ℕ × Tree)). out ++ rest_of_definitions d rest)
      (sym (drop-at attributes i (text, t) (attribute_at (slice_get attributes i) text t name value))) ∙ left

-- ---- what each kind of node appends

-- a fact on an answer that is Ok
on_ok-map : {A E : Type 0} (r : Result A E) (P Q : Type 0) → (P → Q) → OnOk r P → OnOk r Q
on_ok-map (Ok a) P Q f p = f p
on_ok-map (Err e) P Q f p = tt

-- a row between brackets that aren't empty
enclosed_text : (left right : List ℕ) (d : List Item) (ps : List (List Item)) (before one two after : List ℕ) → 0 < length ps
    → one ≡ before ++ text_of (symbol left ∷ space ∷ []) → Adds one (divided d ps) two → after ≡ two ++ text_of (space ∷ symbol right ∷ [])
    → Adds before (enclosed left right d ps) after
enclosed_text left right d [] before one two after some open_ row close = absurd (omega arith)
enclosed_text left right d (p ∷ ps) before one two after some open_ row close =
    adds_within before one two after (symbol left ∷ space ∷ []) (divided d (p ∷ ps)) (space ∷ symbol right ∷ []) open_ row close

operands-some : (o : ℕ → Defs) (first other : ℕ) (ts : List Tree) → 0 < length ts → 0 < length (operands first other (inlined_all o (pack ts)))
operands-some o first other [] some = absurd (omega arith)
operands-some o first other (t ∷ ts) some = omega arith

definitions-some : (o : ℕ → Defs) (attributes : List (List ℕ × Tree)) → 0 < length attributes → 0 < length (definition_pieces (defs_of o attributes))
definitions-some o [] some = absurd (omega arith)
definitions-some o (a ∷ rest) some = omega arith

module _ (fs : List Frame) (turns : ℕ) where
  -- a chain of `&&`, and of `||`
  pub and_arm : {A E : Type 0} (r : Result A E) (e : Tree) (ts : List Tree) (before after : List ℕ) → e ≡ node all (pack ts)
      → OnOk r (Adds before (row_in fs turns (blank (codes " && ") ∷ []) 11 10 ts) after) → OnOk r (Adds before (pieces_in fs turns e) after)
  and_arm r e ts before after same ok =
      subst (λ t. OnOk r (Adds before (pieces_in fs turns t) after)) (sym same)
      (on_ok-map r _ _ (adds_row before after (blank (codes " && ") ∷ []) (spaced (codes "&&")) (operands 11 10 (inlined_all (inside fs turns) (pack ts)))
      refl) ok)

  pub or_arm : {A E : Type 0} (r : Result A E) (e : Tree) (ts : List Tree) (before after : List ℕ) → e ≡ node any (pack ts)
      → OnOk r (Adds before (row_in fs turns (blank (codes " || ") ∷ []) 12 11 ts) after) → OnOk r (Adds before (pieces_in fs turns e) after)
  or_arm r e ts before after same ok =
      subst (λ t. OnOk r (Adds before (pieces_in fs turns t) after)) (sym same)
      (on_ok-map r _ _ (adds_row before after (blank (codes " || ") ∷ []) (spaced (codes "||")) (operands 12 11 (inlined_all (inside fs turns) (pack ts)))
      refl) ok)

  pub call_text : (text : List ℕ) (ts : List Tree) (before one two three after : List ℕ) → one ≡ before ++ text
      → two ≡ one ++ codes "(" → Adds two (row_in fs turns (blank (codes ", ") ∷ []) 13 13 ts) three → after ≡ three ++ codes ")"
      → Adds before (pieces_in fs turns (node (call text) (pack ts))) after
  call_text text ts before one two three after name open_ row close =
      let ps : List (List Item) = operands 13 13 (inlined_all (inside fs turns) (pack ts)) in
      adds_within before two three after (token kinds.Plain text ∷ symbol (codes "(") ∷ []) (divided (then_space (codes ",")) ps) (symbol (codes ")")
      ∷ [])
      (open_ ∙ ap (λ (t : List ℕ). t ++ codes "(") name ∙ append_assoc before text (codes "(")) (adds_row two three (blank (codes ", ") ∷ [])
      (then_space (codes ",")) ps refl row) close

  pub list_text : (ts : List Tree) (before one two after : List ℕ) → 0 < length ts
      → one ≡ before ++ codes "{ " → Adds one (row_in fs turns (blank (codes ", ") ∷ []) 13 13 ts) two → after ≡ two ++ codes " }"
      → Adds before (pieces_in fs turns (node list (pack ts))) after
  list_text ts before one two after some open_ row close =
      let ps : List (List Item) = operands 13 13 (inlined_all (inside fs turns) (pack ts)) in
      enclosed_text (codes "{") (codes "}") (then_space (codes ",")) ps before one two after (operands-some (inside fs turns) 13 13 ts some) open_
      (adds_row one two (blank (codes ", ") ∷ []) (then_space (codes ",")) ps refl row) close

  pub definitions_text : (attributes : List (List ℕ × Tree)) (text : List ℕ) (t : Tree) (n : ℕ) (before first out : List ℕ)
      → option_map (λ a. a.0) (slice_get attributes 0) ≡ Some text → option_map (λ a. a.1) (slice_get attributes 0) ≡ Some t
      → Adds before (definition_in fs turns text t) first
      → out ++ rest_of_definitions fs turns (then_space (codes ";")) (drop n attributes)
      ≡ first ++ rest_of_definitions fs turns (then_space (codes ";")) (drop 1 attributes) → length attributes ≤ n
      → Adds before (definitions_in fs turns attributes) out
  definitions_text [] text t n before first out name value a left past = absurd (cc)
  definitions_text (b ∷ rest) text t n before first out name value a left past =
      let d : List Item = then_space (codes ";") in
      let x : text ≡ b.0 = cc in
      let y : t ≡ b.1 = cc in
      let here : Adds before (definition_in fs turns b.0 b.1) first =
      subst (λ (m : List ℕ). Adds before (definition_in fs turns m b.1) first) x (subst (λ u. Adds before (definition_in fs turns text u) first) y a)
      in
      let none : out ++ rest_of_definitions fs turns d (drop n (b ∷ rest)) ≡ out =
      ap (λ (l : List (List ℕ × Tree)). out ++ rest_of_definitions fs turns d l) (drop_of_length-le (b ∷ rest) past) ∙ append-nil out in
      adds_first before first out d (definition_in fs turns b.0 b.1) (definition_pieces (defs_of (inside fs turns) rest)) here (sym none ∙ left)

-- ---- frames

attributes-past : (fs : List Frame) (f : ℕ) → length fs ≤ f → attributes_at fs f ≡ []
attributes-past fs f past = ap attributes_in (slice_get_past fs f past)

no_attributes : {A : Type 0} (xs : List A) → length xs ≡ 0 → xs ≡ []
no_attributes [] none = refl
no_attributes (x ∷ xs) none = absurd (omega arith)

inside-empty : (fs : List Frame) (turns f : ℕ) → attributes_at fs f ≡ [] → inside fs turns f ≡ no_defs
inside-empty fs zero f none = refl
inside-empty fs (suc n) f none = ap (defs_of (inside fs n)) none

empty_text : (fs : List Frame) (turns f : ℕ) (before after : List ℕ) → inside fs turns f ≡ no_defs → after ≡ before ++ codes "[ ]"
    → Adds before (pieces (opened fs turns f)) after
empty_text fs turns f before after none is = subst (λ ds. Adds before (pieces (inner ds)) after) (sym none) (record { grown = is })

pub no_turns_text : (fs : List Frame) (turns f : ℕ) (before after : List ℕ) → turns ≡ 0 → after ≡ before ++ codes "[ ]"
    → Adds before (pieces (opened fs turns f)) after
no_turns_text fs turns f before after none is = empty_text fs turns f before after (ap (λ (n : ℕ). inside fs n f) none) is

pub missing_text : (fs : List Frame) (turns f : ℕ) (before after : List ℕ) → length fs ≤ f → after ≡ before ++ codes "[ ]"
    → Adds before (pieces (opened fs turns f)) after
missing_text fs turns f before after past is = empty_text fs turns f before after (inside-empty fs turns f (attributes-past fs f past)) is

pub no_attributes_text : (fs : List Frame) (turns f : ℕ) (before after : List ℕ) → length (attributes_at fs f) ≡ 0 → after ≡ before ++ codes "[ ]"
    → Adds before (pieces (opened fs turns f)) after
no_attributes_text fs turns f before after none is = empty_text fs turns f before after (inside-empty fs turns f (no_attributes (attributes_at fs f) none)) is

inside-suc : (fs : List Frame) (turns f : ℕ) → 0 < turns → inside fs turns f ≡ defs_of (inside fs (turns - 1)) (attributes_at fs f)
inside-suc fs zero f some = absurd (omega arith)
inside-suc fs (suc n) f some = let e : n ≡ suc n - 1 = omega arith in ap (λ (k : ℕ). defs_of (inside fs k) (attributes_at fs f)) e

pub frame_text : (fs : List Frame) (turns f : ℕ) (before one two after : List ℕ) → 0 < turns → 0 < length (attributes_at fs f)
    → one ≡ before ++ codes "[ " → Adds one (definitions_in fs (turns - 1) (attributes_at fs f)) two → after ≡ two ++ codes " ]"
    → Adds before (pieces (opened fs turns f)) after
frame_text fs turns f before one two after turn some open_ row close =
    subst (λ ds. Adds before (pieces (inner ds)) after) (sym (inside-suc fs turns f turn))
    (enclosed_text (codes "[") (codes "]") (then_space (codes ";")) (definition_pieces (defs_of (inside fs (turns - 1)) (attributes_at fs f))) before one two
    after (definitions-some (inside fs (turns - 1)) (attributes_at fs f) some) open_ row close)

-- ---- measures

attributes-by : (fs : List Frame) (f : ℕ) (o : Option Frame) → slice_get fs f ≡ o → attributes_size (attributes_in o) ≤ weight fs
attributes-by fs f None is = omega arith
attributes-by fs f (Some g) is = weight-at fs f g is

pub attributes-weight : (fs : List Frame) (f : ℕ) → attributes_size (attributes_at fs f) ≤ weight fs
attributes-weight fs f = attributes-by fs f (slice_get fs f) refl

value-by : (attributes : List (List ℕ × Tree)) (k : ℕ) (t : Tree) (o : Option (List ℕ × Tree)) → slice_get attributes k ≡ o
    → option_map (λ a. a.1) o ≡ Some t → size t ≤ attributes_size attributes
value-by attributes k t None is value = absurd (cc)
value-by attributes k t (Some a) is value = let same : a.1 ≡ t = cc in omega (arith, attributes_size-at attributes k a is, ap size same)

pub value-size : (attributes : List (List ℕ × Tree)) (k : ℕ) (t : Tree) → option_map (λ a. a.1) (slice_get attributes k) ≡ Some t
    → size t ≤ attributes_size attributes
value-size attributes k t value = value-by attributes k t (slice_get attributes k) refl value
