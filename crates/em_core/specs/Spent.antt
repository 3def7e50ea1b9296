-- The handles that an answered ask spends.
use Rattle.std.specs.Prelude.{ℕ, ◌≡◌, ◌<◌, ◌+◌, ◌-◌, ◌^◌, true, false, List, [], ◌∷◌}
use Rattle.em_log.specs.declared.ask.Answer.{Answer}
use Rattle.em_log.specs.declared.ask.Ask.{Ask}
use Rattle.em_log.specs.declared.ask.Context.{Context}
use Rattle.em_log.specs.History.{has, note_words}

-- the words that an ask would spend
abbrev pub words_in : Ask → List ℕ
words_in (Ask.Free w) = w ∷ []
words_in (Ask.Send w q g) = w ∷ []
words_in (Ask.Keep w) = w ∷ []
words_in (Ask.Apply g n notes) = note_words notes
words_in (Ask.Start x notes) = note_words notes
words_in (Ask.Stop x notes) = note_words notes
words_in (Ask.Modify g m notes) = note_words notes
words_in _ = []

-- the words that it has spent by this answer: all of them where it is done
abbrev pub spent : Ask → Answer → List ℕ
spent a Answer.Done = words_in a
spent a _ = []

-- no two of them are the same
abbrev pub Distinct : List ℕ → Type 0
Distinct [] = Unit {0}
Distinct (n ∷ ns) = (has ns n ≡ false) × Distinct ns

-- each of the first is among the second
abbrev pub AreAmong : List ℕ → List ℕ → Type 0
AreAmong [] held = Unit {0}
AreAmong (n ∷ ns) held = (has held n ≡ true) × AreAmong ns held

-- none of the first is among the second
abbrev pub AreNew : List ℕ → List ℕ → Type 0
AreNew [] held = Unit {0}
AreNew (n ∷ ns) held = (has held n ≡ false) × AreNew ns held

-- each of them is a word of 64 bits
abbrev pub AreWords : List ℕ → Type 0
AreWords handles = (h : ℕ) → has handles h ≡ true → h < 2 ^ 64

-- how many are held

-- the handle of the event that a context receives
abbrev pub handles_in : Context → List ℕ
handles_in (Context.Receive r) = r.event.handle.0 ∷ []
handles_in k = []

-- the handle of the event that an answer gives
abbrev pub minted : Answer → List ℕ
minted (Answer.Minted e) = e.handle.0 ∷ []
minted x = []

abbrev pub IsMinted : Answer → Type 0
IsMinted (Answer.Minted e) = Unit {0}
IsMinted x = ⊥

abbrev pub IsDone : Answer → Type 0
IsDone Answer.Done = Unit {0}
IsDone x = ⊥

-- of n handles, after the answer to an ask that spends so many when it is done
abbrev pub count_after : ℕ → ℕ → Answer → ℕ
count_after n words (Answer.Minted e) = n + 1
count_after n words Answer.Done = n - words
count_after n words x = n
