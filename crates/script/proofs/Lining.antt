-- What a line asks for by its tests, and the room that words leave as it was. Assumes nothing.
use Rattle.std.proofs.Common.{◌≡◌, ℕ, Bool, true, false, cond, leb, List, length, Some, None, codes, Option, MatchOption, Bor, refl, sym, ap, ◌∙◌}
use Rattle.std.specs.Option.{option_map, option_map_or, option_or, unwrap_or}
use Rattle.std.specs.Str.{bytes_eq}
use Rattle.lines.specs.Ends.{unreturned, is_comment}
use Rattle.lines.specs.Held.{Holds, OfLine}
use Rattle.lines.specs.Keys.{after, pairs}
use Rattle.lines.specs.declared.buffer.LineBuffer.{LineBuffer}
use Rattle.script.specs.declared.asked.Asked.{Asked}
use Rattle.script.specs.declared.asked.Asked.TheVariants.{Nothing, Setting, Begin, Section, Document, Tick, Choose, Unknown}
use Rattle.script.specs.Lines.{line_asks, room_for}
use Rattle.script.specs.Words.{number_after, setting_of, word_of, words_ask}

-- a line by its tests: a comment, a section, a document, kept whole
abbrev pub asks_by : Asked → Bool → Option ℕ → Option ℕ → Bool → Asked
asks_by words comment section document whole = cond comment Nothing (option_map_or Section section (option_map_or Document document (cond whole words Unknown)))

pub asked_by : (most : ℕ) (line : List ℕ) (words : Asked) (comment whole : Bool) (section document : Option ℕ) → words ≡ words_ask (unreturned line)
    → comment ≡ is_comment (unreturned line) → section ≡ after (codes "section=") pairs (unreturned line) → document ≡ after (codes "document=") pairs (unreturned line)
    → whole ≡ leb (length line) most → asks_by words comment section document whole ≡ line_asks most line
asked_by most line words comment whole section document w c s d l =
    ap (λ x. asks_by x comment section document whole) w ∙ ap (λ x. asks_by (words_ask (unreturned line)) x section document whole) c
    ∙ ap (λ x. asks_by (words_ask (unreturned line)) (is_comment (unreturned line)) x document whole) s
    ∙ ap (λ x. asks_by (words_ask (unreturned line)) (is_comment (unreturned line)) (after (codes "section=") pairs (unreturned line)) x whole) d
    ∙ ap (λ x. asks_by (words_ask (unreturned line)) (is_comment (unreturned line)) (after (codes "section=") pairs (unreturned line)) (after (codes "document=") pairs (unreturned line)) x) l

-- words put nothing into the room
module _ (room text : List ℕ) where
  abbrev Leaves : Option Asked → Type 0
  Leaves o = room_for room text (unwrap_or o Unknown) ≡ room

  or_leaves : (a b : Option Asked) → Leaves a → Leaves b → Leaves (option_or a b)
  or_leaves None b f h = h
  or_leaves (Some x) b f h = f

  map_leaves : {X : Type 0} (make : X → Asked) (o : Option X) → ((x : X) → room_for room text (make x) ≡ room) → Leaves (option_map make o)
  map_leaves make None f = refl
  map_leaves make (Some x) f = f x

  begin_leaves : (b : Bool) → Leaves (cond b (Some Begin) None)
  begin_leaves true = refl
  begin_leaves false = refl

  pub words_leave : (words : List ℕ) → room_for room text (words_ask words) ≡ room
  words_leave words =
      let tick = option_map Tick (number_after (codes "tick=") words) in
      let choose = option_map Choose (number_after (codes "choose=") words) in
      let setting = option_map Setting (setting_of words) in
      or_leaves (option_or (option_or tick choose) setting) (word_of (codes "begin") Begin words)
      (or_leaves (option_or tick choose) setting (or_leaves tick choose (map_leaves Tick _ (λ _. refl)) (map_leaves Choose _ (λ _. refl))) (map_leaves Setting _ (λ _. refl)))
      (begin_leaves (bytes_eq words (codes "begin")))

pub either_way : (b : Bool) (xs ys : List ℕ) → xs ≡ ys → cond b xs ys ≡ ys
either_way true xs ys e = e
either_way false xs ys e = refl

-- a line that is kept whole asks for its words, another for nothing known
pub whole_asks : (o : Option (Bor (List ℕ))) (held : LineBuffer) (line : List ℕ) (r : Asked) → Holds held line
    → MatchOption o (OfLine held (λ text. leb (length text) held.most ≡ false)) (λ t. OfLine held (λ text. (leb (length text) held.most ≡ true) × (t.now ≡ unreturned text)))
    → MatchOption o (r ≡ Unknown) (λ t. r ≡ words_ask t.now) → r ≡ cond (leb (length line) held.most) (words_ask (unreturned line)) Unknown
whole_asks None held line r h a b = b ∙ sym (ap (λ x. cond x (words_ask (unreturned line)) Unknown) (a line h))
whole_asks (Some t) held line r h a b = b ∙ ap words_ask (a line h).1 ∙ sym (ap (λ x. cond x (words_ask (unreturned line)) Unknown) (a line h).0)

-- and neither puts anything into the room
pub whole_leaves : (o : Option (Bor (List ℕ))) (room text : List ℕ) (r : Asked) → MatchOption o (r ≡ Unknown) (λ t. r ≡ words_ask t.now) → room_for room text r ≡ room
whole_leaves None room text r b = ap (room_for room text) b
whole_leaves (Some t) room text r b = ap (room_for room text) b ∙ words_leave room text t.now
