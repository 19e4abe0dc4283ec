-- Steps of which the first fault decides.
use Rattle.std.specs.Prelude.{◌≡◌, Result, Ok, Err}

-- the first fault of two steps, or what the second gives
infixl 10 ◌>>=◌
abbrev pub ◌>>=◌ : {A B E : Type 0} → Result A E → (A → Result B E) → Result B E
(Ok x) >>= f = f x
(Err e) >>= f = Err e

-- what a function that takes no memory returned is, seen by view, this value or fault
abbrev pub Finds : {X Y E : Type 0} → (X → Y) → Result X E → Result Y E → Type 0
Finds view (Ok x) read = read ≡ Ok (view x)
Finds view (Err f) read = read ≡ Err f
