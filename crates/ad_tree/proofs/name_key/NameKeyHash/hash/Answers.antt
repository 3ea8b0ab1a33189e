use Rattle.std.proofs.Common.{◌-◌, ◌∙◌, [], ◌∷◌, ℕ, List, ap, arith, bit_or, drop, length, length-take, map, take}
use Rattle.std.proofs.lemmas.Simd.{zip2_splat}
use Rattle.std.specs.Hash as fed
use Rattle.std.specs.Int.{w64, from_be_bytes}
use Rattle.std.specs.List.{flat_map, fold}
use Rattle.pool_text.specs.Digests.{letter}
use Rattle.ad_tree.specs.Words.{words}
use Rattle.ad_tree.proofs.WordLemmas.{letters-folded, words-last, words-more}
use Rattle.ad_tree.proofs.name_key.NameKeyHash.hash.Goals as goal

pub loop-rest-preserved : goal.loop-rest-preserved
loop-rest-preserved g c =
    let bytes = c.loop-rest.rest.now in
    let later = map letter (take (length bytes - 8) (drop 8 bytes)) in
    let feed = λ (ws : List ℕ). fold g.H.Hasher.write c.loop-rest.state (flat_map fed.u64 ws) in
    ap (λ s. fold g.H.Hasher.write s (flat_map fed.u64 (words later))) c.write_u64.ensures
    ∙ ap (λ (word : ℕ). feed (word ∷ words later)) (
    c.from_be_bytes.ensures
    ∙ ap (from_be_bytes w64) (zip2_splat bit_or (take 8 bytes) 8 32 (omega (arith, length-take 8 bytes, c.loop-rest-test.true)))
    )
    ∙ ap feed (words-more bytes (omega (arith, c.loop-rest-test.true)))
    ∙ c.loop-rest.invariant

pub returns : goal.returns
returns g c =
    let feed = λ (ws : List ℕ). fold g.H.Hasher.write c.loop-rest.state (flat_map fed.u64 ws) in
    c.write_u64-2.ensures
    ∙ ap (λ (word : ℕ). feed (word ∷ [])) c.last_word.ensures
    ∙ ap feed (words-last c.loop-rest.rest.now (omega (arith, c.loop-rest-test.false)))
    ∙ c.loop-rest.invariant
    ∙ ap (λ (ls : List ℕ). fold g.H.Hasher.write c.args.state.now (flat_map fed.u64 (words ls))) (letters-folded c.args.self.now.name.now)
