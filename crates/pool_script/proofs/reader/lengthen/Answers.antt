use Rattle.std.proofs.Common.{◌≡◌, ◌++◌, ◌∷◌, ℕ, List, [], length, sym, ◌∙◌, ap, append_assoc, rules}
use Rattle.pool_text.specs.Lines.{without_return}
use Rattle.pool_script.specs.Commands.{next}
use Rattle.pool_script.specs.Reading.{kept_next}
use Rattle.pool_script.proofs.ReaderLemmas.{without_return-none}
use Rattle.pool_script.proofs.reader.lengthen.Goals as goal

pub returns-then-front-line : goal.returns-then-front-line
unfolding kept_next next
returns-then-front-line c =
    let line = c.args.line.now in
    let same : length (without_return line) ≡ length line = ap length (sym c.without_return-front.ensures) ∙ c.if-front-line.true in
    let added : c.args.with_feed.now ≡ without_return line ++ 10 ∷ [] =
    c.requires.feed ∙ ap (λ (l : List ℕ). l ++ 10 ∷ []) (sym (without_return-none line same)) in
    let grouped = append_assoc c.args.block.now.text (without_return line) (10 ∷ []) in
    search rules
