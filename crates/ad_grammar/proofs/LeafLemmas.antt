-- What is read of a plain name or a literal alone.
use Rattle.std.proofs.Common.{◌≡◌, ℕ, suc, true, List, [], ◌∷◌, drop, None, Some, refl, sym, subst, ap, ◌∙◌}
use Rattle.pool_text.specs.declared.language.Lit.{Lit}
use Rattle.ad_tree.specs.Inline.{Inline}
use Rattle.ad_tree.specs.Tree.{literal, name}
use Rattle.ad_tree.specs.declared.tree.Scope.TheVariants.{Bare}
use Rattle.ad_lexer.specs.declared.mark.Mark.TheVariants.{CloseParen, CloseBracket, CloseBrace, Comma, Semicolon}
use Rattle.ad_builder.specs.Machine.{step}
use Rattle.ad_builder.specs.Shapes.{leaf}
use Rattle.ad_builder.specs.declared.instruction.Instruction.{Instruction}
use Rattle.ad_builder.specs.declared.instruction.Instruction.TheVariants as instructions
use Rattle.ad_grammar.specs.HeldMarks.{ends_at}
use Rattle.ad_grammar.specs.Rules.{Reading, expression}
use Rattle.ad_grammar.specs.Steps.{put_at}
use Rattle.ad_grammar.specs.Words.{Word, plain, quoted, constant, mark}

name-alone : (fuel : ℕ) (text : List ℕ) (ws : List Word) → ends_at ws ≡ true → expression (suc fuel) (plain text ∷ ws) ≡ Some (leaf (name Bare text), ws)
name-alone fuel text [] h = absurd cc
name-alone fuel text (plain t ∷ ws) h = absurd cc
name-alone fuel text (quoted t ∷ ws) h = absurd cc
name-alone fuel text (constant l ∷ ws) h = absurd cc
name-alone fuel text (mark m ∷ ws) h =
    elim m as (λ n. ends_at (mark n ∷ ws) ≡ true → expression (suc fuel) (plain text ∷ mark n ∷ ws) ≡ Some (leaf (name Bare text), mark n ∷ ws)) [
      | Semicolon ↦ λ k. refl
      | Comma ↦ λ k. refl
      | CloseBracket ↦ λ k. refl
      | CloseBrace ↦ λ k. refl
      | CloseParen ↦ λ k. refl
      | _ ↦ λ k. absurd cc
    ] h

literal-alone : (fuel : ℕ) (lit : Lit) (ws : List Word) → ends_at ws ≡ true → expression (suc fuel) (constant lit ∷ ws) ≡ Some (leaf (literal lit), ws)
literal-alone fuel lit [] h = absurd cc
literal-alone fuel lit (plain t ∷ ws) h = absurd cc
literal-alone fuel lit (quoted t ∷ ws) h = absurd cc
literal-alone fuel lit (constant l ∷ ws) h = absurd cc
literal-alone fuel lit (mark m ∷ ws) h =
    elim m as (λ n. ends_at (mark n ∷ ws) ≡ true → expression (suc fuel) (constant lit ∷ mark n ∷ ws) ≡ Some (leaf (literal lit), mark n ∷ ws)) [
      | Semicolon ↦ λ k. refl
      | Comma ↦ λ k. refl
      | CloseBracket ↦ λ k. refl
      | CloseBrace ↦ λ k. refl
      | CloseParen ↦ λ k. refl
      | _ ↦ λ k. absurd cc
    ] h

-- the parts of what is read
abbrev read-first : Instruction → Reading Instruction → Instruction
read-first i None = i
read-first i (Some read) = read.0

abbrev read-rest : Reading Instruction → List Word
read-rest None = []
read-rest (Some read) = read.1

-- a leaf that was added at once is the expression that stands there
module _ (rest : List Word) (i : Instruction) (before after : List Inline) (is : after ≡ step instructions.Element (step i before)) where
  added : (ws : List Word) (x : Inline) (j : Instruction) (us : List Word) → j ≡ i → us ≡ rest → step j before ≡ x ∷ before
      → ((fuel : ℕ) → expression (suc fuel) ws ≡ Some (x, us))
      → (x : Inline) × ((fuel : ℕ) → expression (suc fuel) ws ≡ Some (x, rest)) × (after ≡ step instructions.Element (x ∷ before))
  added ws x j us same here puts read = (
    x,
    (λ fuel. subst (λ r. expression (suc fuel) ws ≡ Some (x, r)) here (read fuel)),
    is ∙ ap (λ k. step instructions.Element (step k before)) (sym same) ∙ ap (step instructions.Element) puts,
  )

  pub element-alone : (ws : List Word) → put_at ws ≡ Some (i, rest) → ends_at (drop 1 ws) ≡ true
      → (x : Inline) × ((fuel : ℕ) → expression (suc fuel) ws ≡ Some (x, rest)) × (after ≡ step instructions.Element (x ∷ before))
  element-alone [] put ends = absurd cc
  element-alone (plain text ∷ us) put ends =
      let same : instructions.Name Bare text ≡ i = ap (read-first i) put in
      let here : us ≡ rest = ap read-rest put in
      added (plain text ∷ us) (leaf (name Bare text)) (instructions.Name Bare text) us same here refl (λ fuel. name-alone fuel text us ends)
  element-alone (constant lit ∷ us) put ends =
      let same : instructions.Literal lit ≡ i = ap (read-first i) put in
      let here : us ≡ rest = ap read-rest put in
      added (constant lit ∷ us) (leaf (literal lit)) (instructions.Literal lit) us same here refl (λ fuel. literal-alone fuel lit us ends)
  element-alone (quoted text ∷ us) put ends = absurd cc
  element-alone (mark m ∷ us) put ends = absurd cc
