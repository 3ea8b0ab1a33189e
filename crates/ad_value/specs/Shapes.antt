-- What a value of the language is, apart from how it lies in memory.
use Rattle.std.specs.Prelude.{ℕ, Bool, ℤ, List}
use Rattle.pool_text.specs.declared.language.AdPlace.{AdPlace}

-- a value: a decimal is its millionths, a text its bytes, a list its elements, and an ad the place of a frame
mutual
  pub data Plain : Type 0 where
    undefined : Plain
    error : Plain
    boolean : Bool → Plain
    integer : ℤ → Plain
    decimal : ℤ → Plain
    text : List ℕ → Plain
    list : Plains → Plain
    ad_at : AdPlace → Plain

  pub data Plains : Type 0 where
    no_plains : Plains
    plain_then : Plain → Plains → Plains
