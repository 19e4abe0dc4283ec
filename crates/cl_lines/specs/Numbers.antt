-- Numbers of two bytes, as words write them.
use Rattle.std.specs.Prelude.{◌≡◌, ℕ, ◌≤◌, List, length}
use Rattle.std.specs.Str.Parse.{IsNumeral, digits_value}
use Rattle.cl_lines.specs.declared.number.TheConstants.{MOST_NUMBER}

-- one to five decimal digits write this number
pub record WritesNumber (text : List ℕ) (number : ℕ) : Type 0 where
  pub digits : IsNumeral 10 text
  pub few : length text ≤ 5
  pub value : number ≡ digits_value 10 text
  pub fits : number ≤ MOST_NUMBER
