-- A line of a key and what follows it. Assumes nothing.
use Rattle.std.specs.Prelude.{ℕ, ◌/◌, ◌%◌, Bool, cond, ◌&&◌, List, ◌++◌, length, take, drop, Some, None, Option, ◌==◌, nat_le}
use Rattle.std.specs.Str.{bytes_eq}
use Rattle.lines.specs.Hex.{all_digits, decoded}

-- whether the text begins with the key
abbrev pub begins : List ℕ → List ℕ → Bool
begins key text = bytes_eq (take (length key) text) key

-- what is read of the bytes after the key, if the text begins with it
abbrev pub after : {X : Type 0} → List ℕ → (List ℕ → Option X) → List ℕ → Option X
after key read text = cond (begins key text) (read (drop (length key) text)) None

-- how many bytes so many bytes of a text stand for, if all of them are digits
abbrev pub paired : Bool → ℕ → Option ℕ
paired digits n = cond (digits && n % 2 == 0) (Some (n / 2)) None

-- how many bytes a text stands for, if it is pairs of digits
abbrev pub pairs : List ℕ → Option ℕ
pairs text = paired (all_digits text) (length text)

-- a room that so many bytes are put into, which the digits stand for: as it was where they do not fit
abbrev pub put_into : List ℕ → List ℕ → Option ℕ → List ℕ
put_into room digits None = room
put_into room digits (Some n) = cond (nat_le n (length room)) (decoded digits ++ drop n room) room
