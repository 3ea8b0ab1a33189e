use Rattle.std.proofs.Common.{◌≡◌, ℕ, List, IfOk, length, drop, slice_get, Some, ap, arith, length-append, subst, sym, ◌∙◌}
use Rattle.std.proofs.lemmas.List.{drop-drop, length-drop}
use Rattle.std.proofs.lemmas.Result.{IfOk-weaker}
use Rattle.ad_lexer.specs.Content.{content}
use Rattle.ad_lexer.specs.Lexeme.{Lexeme, lexeme}
use Rattle.ad_lexer.proofs.ContentLemmas.{equal_when, less_when, one_run, quotation_long}
use Rattle.ad_lexer.proofs.SliceLemmas.{stands_in_source}
use Rattle.ad_lexer.proofs.token.Tokens.content.Goals as goal

pub behind-letters-requires : goal.behind-letters-requires
behind-letters-requires c =
    let token : Lexeme = lexeme c.at-token.result in
    let stands =
    stands_in_source c.self.inside.source.now c.self.inside.spans.items c.args.i token
    (ap (λ (l : List Lexeme). slice_get l c.args.i) c.self.view_is ∙ c.at-token.ensures) in
    let long = less_when _ _ (c.requires.quotation token c.at-token.ensures) (λ quotation. quotation_long token.text quotation) in
    omega (arith, long, ap (λ (l : List ℕ). length l) stands.1, length-append token.text stands.0, length-drop token.start c.self.inside.source.now)

pub overflow_sub-len : goal.overflow_sub-len
overflow_sub-len c =
    less_when _ _ (c.requires.quotation (lexeme c.at-token.result) c.at-token.ensures) (λ quotation. quotation_long c.at-token.result.text.now quotation)

pub unescaped-requires : goal.unescaped-requires
unescaped-requires c = c.requires.quotation (lexeme c.at-token.result) c.at-token.ensures

pub returns-then-run_len-len : goal.returns-then-run_len-len
returns-then-run_len-len c =
    let token : Lexeme = lexeme c.at-token.result in
    let source : List ℕ = c.self.inside.source.now in
    let stands =
    stands_in_source source c.self.inside.spans.items c.args.i token (ap (λ (l : List Lexeme). slice_get l c.args.i) c.self.view_is ∙ c.at-token.ensures) in
    let letters = c.behind-letters.ensures ∙ sym (drop-drop 1 token.start source) ∙ ap (λ (l : List ℕ). drop 1 l) (sym stands.1) in
    let whole = equal_when _ _ (c.requires.quotation token c.at-token.ensures) (λ quotation.
    one_run token.text stands.0 c.behind-letters.result.now quotation letters (sym c.run_len.ensures.value ∙ c.if-run_len-len.true)) in
    let found : IfOk c.from_front.result (λ text. text ≡ content token.text) =
    subst (λ (bytes : List ℕ). IfOk c.from_front.result (λ t. t ≡ bytes)) whole c.from_front.ensures.text in
    let whole_for : (text : List ℕ) → text ≡ content token.text → (l : Lexeme) → slice_get c.args.self.now c.args.i ≡ Some l → text ≡ content l.text =
    λ text is l reads. (let same : token ≡ l = cc (reads, c.at-token.ensures) in is ∙ ap (λ (x : Lexeme). content x.text) same) in
    IfOk-weaker c.from_front.result (λ text. text ≡ content token.text)
    (λ text. (l : Lexeme) → slice_get c.args.self.now c.args.i ≡ Some l → text ≡ content l.text) whole_for found
