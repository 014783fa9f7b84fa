-- That a section is its head, its parts in their order, each with what states its length, and its check word: nothing is missing, and nothing stands twice. Assumes nothing.
use Rattle.std.specs.Prelude.{◌≡◌, ℕ, ◌+◌, ◌/◌, ◌%◌, List, [], ◌∷◌, length, take, drop}
use Rattle.std.specs.List.{concat}
use Rattle.section.specs.Places.{word, part, times_at, text_at, descriptors_at, check_at, event_code_of, nature_of, alert_of, locations_of, exceptions_of, descriptors_of}

-- the event ID and the originator
unfoldable pub event_of : List ℕ → List ℕ
event_of s = part 9 14 s

-- the numbers between the two texts, from the seconds to the length of the alert text
unfoldable pub times_of : List ℕ → List ℕ
times_of s = part (times_at s) (text_at s) s

-- the two bytes with the length of the descriptors
unfoldable pub descriptor_length_of : List ℕ → List ℕ
descriptor_length_of s = part (descriptors_at s) (descriptors_at s + 2) s

unfoldable pub check_word_of : List ℕ → List ℕ
check_word_of s = drop (check_at s) s

-- entries of w bytes after one byte that counts them
abbrev pub counted : ℕ → List ℕ → List ℕ
counted w entries = length entries / w ∷ entries

-- the head, the parts in their order, and the check word
abbrev pub pieces_of : List ℕ → List (List ℕ)
pieces_of s =
    take 9 s
    ∷ event_of s
    ∷ counted 1 (event_code_of s)
    ∷ counted 1 (nature_of s)
    ∷ times_of s
    ∷ alert_of s
    ∷ counted 3 (locations_of s)
    ∷ counted 5 (exceptions_of s)
    ∷ descriptor_length_of s
    ∷ descriptors_of s
    ∷ check_word_of s
    ∷ []

-- the pieces are the section, and each has the length that is stated for it: the entries are whole
pub record IsWhole (s : List ℕ) : Type 0 where
  pub joined : concat (pieces_of s) ≡ s
  pub head : length (take 9 s) ≡ 9
  pub event : length (event_of s) ≡ 5
  pub times : length (times_of s) ≡ 19
  pub alert : length (alert_of s) ≡ word (times_of s) 17
  pub locations : length (locations_of s) % 3 ≡ 0
  pub exceptions : length (exceptions_of s) % 5 ≡ 0
  pub descriptor_length : length (descriptor_length_of s) ≡ 2
  pub descriptors : length (descriptors_of s) ≡ word (descriptor_length_of s) 0 % 1024
  pub check_word : length (check_word_of s) ≡ 4
