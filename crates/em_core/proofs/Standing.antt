-- What a run stands for after each of its calls.
use Rattle.std.proofs.Common.{◌≡◌, ℕ, ◌+◌, ◌-◌, ◌<◌, ◌^◌, true, false, List, [], ◌∷◌, ◌++◌, length, length-append, Option, Some, None, refl, sym, ap, ◌∙◌, subst, arith}
use Rattle.std.specs.Prelude.{IsTrue}
use Rattle.std.specs.Option.{option_map}
use Rattle.em_log.specs.declared.ask.Answer.{Answer}
use Rattle.em_log.specs.declared.ask.Ask.{Ask}
use Rattle.em_log.specs.declared.ask.Context.{Context}
use Rattle.em_log.specs.declared.entry.What.{What}
use Rattle.em_log.specs.declared.ids.Cells.{Cells}
use Rattle.em_log.specs.declared.ids.OpId.{OpId}
use Rattle.em_log.specs.declared.work.Move.{Move}
use Rattle.em_log.specs.declared.work.Work.{Ghosts}
use Rattle.em_log.specs.Contexts.{context}
use Rattle.em_log.specs.Handles.{held, with_minted}
use Rattle.em_log.specs.History.{has, without_all}
use Rattle.em_log.specs.Works.{Exchange, Begun, Silent, Asked, Answered, asked, asks_no_end, is_end, fits, Fits}
use Rattle.em_core.specs.declared.core_run.CoreRun.{CoreRun}
use Rattle.em_core.specs.declared.core_run.Stage.{Stage}
use Rattle.em_core.specs.declared.core_run.Step.{Step}
use Rattle.em_core.specs.Pieces.{Piece, HasNoRest, begun_by, history, open_context, open_after, exchanges}
use Rattle.em_core.specs.Spent.{words_in, spent, minted, handles_in, count_after, Distinct, AreAmong, AreNew, AreWords}
use Rattle.em_core.specs.Steps.{is_open, is_open_at, AreHandles, GrowsByTake, GrowsByAsk}
use Rattle.em_core.specs.Stands.{Stands, AreCounted, IsAt, IsOver, IsAtStage, EndsSo, is_no_end, words_of}
use Rattle.em_core.proofs.Handles.{same_number, distinct-append, words-append, distinct-without_all, has-from_without_all, length-without_all}
use Rattle.em_core.proofs.Leads.{event_in, lead-shows}
use Rattle.em_core.proofs.Histories.{opened-context, opened-held, acked-context, acked-held, asked-context, asked-held, ended-context, ended-held}

-- counted

counted-at : (n : ℕ) (hs gs : List ℕ) → hs ≡ gs → AreCounted n gs → AreCounted n hs
counted-at n hs gs is counted = subst (λ (xs : List ℕ). AreCounted n xs) (sym is) counted

counted-none : AreCounted 0 []
counted-none = record { count = refl; distinct = tt; words = λ h is. absurd cc }

counted-first : (k : Context) → AreWords (handles_in k) → AreCounted (length (handles_in k)) (handles_in k)
counted-first (Context.Receive r) words = record { count = refl; distinct = (refl, tt); words = words }
counted-first Context.Boot words = counted-none
counted-first (Context.GlobalStart op x) words = counted-none
counted-first (Context.LocalStart op x) words = counted-none
counted-first (Context.LocalStop op x) words = counted-none
counted-first (Context.GlobalStop op x) words = counted-none

counted-spent : (n : ℕ) (ws hs : List ℕ) → AreCounted n hs → Distinct ws → AreAmong ws hs
    → AreCounted (n - length ws) (without_all ws hs)
counted-spent n ws hs counted apart among =
    let less = length-without_all ws hs counted.distinct apart among in
    record {
      count = omega (arith, less, counted.count);
      distinct = distinct-without_all ws hs counted.distinct;
      words = λ h is. counted.words h (has-from_without_all ws hs h is);
    }

counted-more : (n : ℕ) (h : ℕ) (hs : List ℕ) → AreCounted n hs → has hs h ≡ false → h < 2 ^ 64 → AreCounted (n + 1) (hs ++ h ∷ [])
counted-more n h hs counted none less =
    record {
      count = simp length-append (omega (arith, counted.count));
      distinct = distinct-append hs h counted.distinct none;
      words = words-append hs h counted.words less;
    }

-- the handles that the open context holds after an answer, and how many there are
counted-answered : (n words : ℕ) (a : Ask) (x : Answer) (b : What) (hs : List ℕ) → AreCounted n hs → words ≡ length (words_in a)
    → Distinct (spent a x) → AreAmong (spent a x) hs → AreNew (minted x) hs → AreWords (minted x)
    → AreCounted (count_after n words x) (with_minted (Some b) (event_in x) (without_all (spent a x) hs))
counted-answered n words a (Answer.Minted e) b hs counted is apart among new small =
    let same = same_number e.handle.0 in
    counted-more n e.handle.0 hs counted new.0 (small e.handle.0 (rw same refl))
counted-answered n words a Answer.Done b hs counted is apart among new small =
    subst (λ (w : ℕ). AreCounted (n - w) (without_all (words_in a) hs)) (sym is) (counted-spent n (words_in a) hs counted apart among)
counted-answered n words a x b hs counted is apart among new small = counted

-- asks that are no end

pub open-after : (a : Ask) (was : Option Context) → is_end a ≡ false → open_after a was ≡ was
open-after (Ask.End cells) was mid = absurd cc
open-after a was mid = refl

no-end : (a : Ask) → IsTrue (is_no_end (Some a)) → is_end a ≡ false
no-end (Ask.End cells) mid = absurd cc
no-end a mid = refl

asked-no_end : (v : Move) → IsTrue (asks_no_end v) → IsTrue (is_no_end (asked v))
asked-no_end Move.Silent mid = refl
asked-no_end Move.End mid = refl
asked-no_end (Move.Ask (Ask.End cells)) mid = absurd cc
asked-no_end (Move.Ask a) mid = refl

module _ {W : Type 0} (k : Ghosts W) where
  abbrev pub run_with : CoreRun W → W → Stage → ℕ → CoreRun W
  run_with run now stage n = record { core = run.core; work = now; stage = stage; held = n; locals = run.locals }

  ends-mid : (f : k.Fixed) (current : Option Context) (es : List Exchange) (a : Ask) → is_end a ≡ false → EndsSo k f current es a
  ends-mid f current es (Ask.End cells) mid = absurd cc
  ends-mid f current es a mid = tt

  -- the same list

  pub stands-same : (run : CoreRun W) (now : W) (stage : Stage) (c : ℕ) (f : k.Fixed) (m : List Piece)
      → k.fixed now ≡ k.fixed run.work → Stands k run c f m
      → IsAtStage k f (open_context m) (exchanges m) (k.state now) stage
      → Stands k (run_with run now stage run.held) c f m
  stands-same run now stage c f m same stands at =
      record {
        core = stands.core;
        fixed = same ∙ stands.fixed;
        pieces = stands.pieces;
        opened = stands.opened;
        stage = at;
        ended = stands.ended;
        held = stands.held;
        locals = stands.locals;
      }

  -- whether a context is open

  closed-at : (f : k.Fixed) (current : Option Context) (es : List Exchange) (now : k.State) (stage : Stage) → is_open_at stage ≡ false
      → IsAtStage k f current es now stage → current ≡ None
  closed-at f current es now (Stage.Open n) shut at = absurd cc
  closed-at f current es now (Stage.Ending cells) shut at = absurd cc
  closed-at f current es now stage shut at = at

  -- no context is open where the run has none
  pub stands-closed_context : (run : CoreRun W) (c : ℕ) (f : k.Fixed) (m : List Piece) → is_open run ≡ false → Stands k run c f m
      → context (history c m) c ≡ None
  stands-closed_context run c f m shut stands =
      stands.opened ∙ ap (option_map begun_by) (closed-at f (open_context m) (exchanges m) (k.state run.work) run.stage shut stands.stage)

  open-at : (f : k.Fixed) (current : Option Context) (es : List Exchange) (now : k.State) (stage : Stage) → is_open_at stage ≡ true
      → IsAtStage k f current es now stage → (b : Context) × (current ≡ Some b)
  open-at f current es now (Stage.Open n) is at = (at.context, at.is_open)
  open-at f current es now (Stage.Ending cells) is at = (at.context, at.is_open)
  open-at f current es now stage is at = absurd cc

  -- and one is where it has one
  pub stands-open_context : (run : CoreRun W) (c : ℕ) (f : k.Fixed) (m : List Piece) → is_open run ≡ true → Stands k run c f m
      → (b : Context) × (open_context m ≡ Some b) × (context (history c m) c ≡ Some (begun_by b))
  stands-open_context run c f m is stands =
      let at = open-at f (open_context m) (exchanges m) (k.state run.work) run.stage is stands.stage in
      (at.0, at.1, stands.opened ∙ ap (option_map begun_by) at.1)

  -- the open context of a run at this stage
  pub at-open : (run : CoreRun W) (c : ℕ) (f : k.Fixed) (m : List Piece) (n : ℕ) → run.stage ≡ Stage.Open n → Stands k run c f m
      → IsAt k f (open_context m) (exchanges m) (k.state run.work) n
  at-open run c f m n is stands =
      subst (λ (g : Stage). IsAtStage k f (open_context m) (exchanges m) (k.state run.work) g) is stands.stage

  -- what the work does with its fixed part, it does with f
  moved : (run : CoreRun W) (c : ℕ) (f : k.Fixed) (m : List Piece) (v : Move) (t : k.State) → Stands k run c f m
      → k.Moves (k.fixed run.work) (k.state run.work) v t → k.Moves f (k.state run.work) v t
  moved run c f m v t stands moves = subst (λ (g : k.Fixed). k.Moves g (k.state run.work) v t) stands.fixed moves

  -- a move of the open context

  pub stands-silent : (run : CoreRun W) (now : W) (c : ℕ) (f : k.Fixed) (m : List Piece) (n : ℕ)
      → k.unanswered (k.state run.work) ≡ None → k.unanswered (k.state now) ≡ None → k.fixed now ≡ k.fixed run.work
      → k.Moves (k.fixed run.work) (k.state run.work) Move.Silent (k.state now) → run.stage ≡ Stage.Open n
      → Stands k run c f m → Stands k (run_with run now run.stage run.held) c f m
  stands-silent run now c f m n none none_now same moves is stands =
      let at = at-open run c f m n is stands in
      let now_at : IsAt k f (open_context m) (exchanges m) (k.state now) n = record {
        context = at.context;
        is_open = at.is_open;
        reached = Silent (exchanges m) (k.state run.work) (k.state now) at.reached (moved run c f m Move.Silent (k.state now) stands moves);
        no_end = rw none_now refl;
        words = at.words ∙ ap (λ (a : Option Ask). length (words_of a)) (none ∙ sym none_now);
      } in
      stands-same run now run.stage c f m same stands
      (subst (λ (g : Stage). IsAtStage k f (open_context m) (exchanges m) (k.state now) g) (sym is) now_at)

  pub stands-asked : (run : CoreRun W) (now : W) (c : ℕ) (f : k.Fixed) (m : List Piece) (n : ℕ) (a : Ask)
      → k.unanswered (k.state now) ≡ Some a → IsTrue (asks_no_end (Move.Ask a)) → k.fixed now ≡ k.fixed run.work
      → k.Moves (k.fixed run.work) (k.state run.work) (Move.Ask a) (k.state now) → run.stage ≡ Stage.Open n
      → Stands k run c f m → Stands k (run_with run now (Stage.Open (length (words_in a))) run.held) c f m
  stands-asked run now c f m n a asks mid same moves is stands =
      let at = at-open run c f m n is stands in
      stands-same run now (Stage.Open (length (words_in a))) c f m same stands
      (record {
        context = at.context;
        is_open = at.is_open;
        reached = Asked (exchanges m) (k.state run.work) (k.state now) a at.reached (moved run c f m (Move.Ask a) (k.state now) stands moves);
        no_end = rw asks (asked-no_end (Move.Ask a) mid);
        words = rw asks refl;
      })

  pub stands-ending : (run : CoreRun W) (now : W) (c : ℕ) (f : k.Fixed) (m : List Piece) (n : ℕ) (cells : Option Cells)
      → k.unanswered (k.state run.work) ≡ None → k.fixed now ≡ k.fixed run.work → cells ≡ k.carried (k.state now)
      → k.Moves (k.fixed run.work) (k.state run.work) Move.End (k.state now) → run.stage ≡ Stage.Open n
      → Stands k run c f m → Stands k (run_with run now (Stage.Ending cells) run.held) c f m
  stands-ending run now c f m n cells none same carried moves is stands =
      let at = at-open run c f m n is stands in
      stands-same run now (Stage.Ending cells) c f m same stands
      (record {
        context = at.context;
        was = k.state run.work;
        is_open = at.is_open;
        reached = at.reached;
        answered = none;
        ends = moved run c f m Move.End (k.state now) stands moves;
        carried = carried;
      })

  -- a take is answered

  pub stands-opened : (run : CoreRun W) (now : W) (c : ℕ) (f : k.Fixed) (m : List Piece) (ctx : Context)
      → k.unanswered (k.state now) ≡ None → k.fixed now ≡ k.fixed run.work
      → k.Begins (k.fixed run.work) ctx (k.state now) → HasNoRest ctx → AreWords (handles_in ctx)
      → Stands k run c f m → Stands k (run_with run now (Stage.Open 0) (length (handles_in ctx))) c f (Piece.Opened ctx ∷ m)
  stands-opened run now c f m ctx none same begins rest words stands =
      record {
        core = stands.core;
        fixed = same ∙ stands.fixed;
        pieces = (rest, stands.pieces);
        opened = opened-context c ctx m;
        stage = record {
          context = ctx;
          is_open = refl;
          reached = Begun [] (k.state now) refl (subst (λ (g : k.Fixed). k.Begins g ctx (k.state now)) stands.fixed begins);
          no_end = rw none refl;
          words = rw none refl;
        };
        ended = stands.ended;
        held = counted-at (length (handles_in ctx)) (held (history c (Piece.Opened ctx ∷ m)) c) (handles_in ctx)
            (opened-held c ctx m) (counted-first ctx words);
        locals = stands.locals;
      }

  pub stands-acked : (run : CoreRun W) (c : ℕ) (f : k.Fixed) (m n : List Piece) (op : OpId) → run.stage ≡ Stage.Taking
      → GrowsByTake (Answer.Acked op) m n → Stands k run c f m → Stands k (run_with run run.work Stage.Between run.held) c f n
  stands-acked run c f m n op is grows stands =
      let tail = grows.0 in
      let closed : open_context m ≡ None = subst (λ (g : Stage). IsAtStage k f (open_context m) (exchanges m) (k.state run.work) g) is stands.stage in
      let now : Stands k (run_with run run.work Stage.Between run.held) c f (Piece.Acked op tail ∷ m) = record {
        core = stands.core;
        fixed = stands.fixed;
        pieces = (grows.1, stands.pieces);
        opened = acked-context c op tail m grows.1 ∙ stands.opened;
        stage = closed;
        ended = stands.ended;
        held = counted-at run.held (held (history c (Piece.Acked op tail ∷ m)) c) (held (history c m) c)
            (acked-held c op tail m grows.1) stands.held;
        locals = stands.locals;
      } in
      subst (λ (l : List Piece). Stands k (run_with run run.work Stage.Between run.held) c f l) (sym grows.2) now

  -- a take is answered by no context, and by no acknowledgement
  pub stands-closed : (run : CoreRun W) (c : ℕ) (f : k.Fixed) (m : List Piece) (stage : Stage) → run.stage ≡ Stage.Taking
      → (open_context m ≡ None → IsAtStage k f (open_context m) (exchanges m) (k.state run.work) stage)
      → Stands k run c f m → Stands k (run_with run run.work stage run.held) c f m
  stands-closed run c f m stage is at stands =
      stands-same run run.work stage c f m refl stands
      (at (subst (λ (g : Stage). IsAtStage k f (open_context m) (exchanges m) (k.state run.work) g) is stands.stage))

  -- an ask is answered

  pub stands-answered : (run : CoreRun W) (now : W) (c : ℕ) (f : k.Fixed) (m n : List Piece) (words : ℕ) (a : Ask) (x : Answer)
      → run.stage ≡ Stage.Open words → k.unanswered (k.state run.work) ≡ Some a → Fits (k.unanswered (k.state run.work)) x
      → k.unanswered (k.state now) ≡ None → k.fixed now ≡ k.fixed run.work
      → k.Leaves (k.fixed run.work) (k.state run.work) x (k.state now)
      → AreHandles (held (history c m) c) (Some (Step.Ask a)) x → AreWords (minted x) → GrowsByAsk c a x m n
      → Stands k run c f m → Stands k (run_with run now (Stage.Open 0) (count_after run.held words x)) c f n
  stands-answered run now c f m n words a x is asks fit none same leaves handles small grows stands =
      let at = at-open run c f m words is stands in
      let mid : is_end a ≡ false = no-end a (rw asks at at.no_end) in
      let shows = lead-shows c a x grows.entry mid grows.is_lead in
      let p = Piece.Answered grows.entry grows.tail a x in
      let fits_a : IsTrue (fits a x) = rw asks at fit in
      let left : k.Leaves f (k.state run.work) x (k.state now) = subst (λ (g : k.Fixed). k.Leaves g (k.state run.work) x (k.state now)) stands.fixed leaves in
      let still : open_context (p ∷ m) ≡ open_context m = open-after a (open_context m) mid in
      let opened : context (history c m) c ≡ Some (begun_by at.context) = stands.opened ∙ ap (option_map begun_by) at.is_open in
      let counted : AreCounted (count_after run.held words x) (with_minted (Some (begun_by at.context)) (event_in x) (without_all (spent a x) (held (history c m) c)))
      = counted-answered run.held words a x (begun_by at.context) (held (history c m) c) stands.held
      (at.words ∙ ap (λ (u : Option Ask). length (words_of u)) asks) handles.different handles.among handles.new small in
      let answered : Stands k (run_with run now (Stage.Open 0) (count_after run.held words x)) c f (p ∷ m) = record {
        core = stands.core;
        fixed = same ∙ stands.fixed;
        pieces = ((grows.is_lead, grows.follow), stands.pieces);
        opened = asked-context c grows.entry grows.tail a x m shows grows.follow ∙ stands.opened ∙ ap (option_map begun_by) (sym still);
        stage = record {
          context = at.context;
          is_open = still ∙ at.is_open;
          reached = Answered (exchanges (p ∷ m)) (exchanges m) (k.state run.work) (k.state now) a x at.reached asks fits_a left refl;
          no_end = rw none refl;
          words = rw none refl;
        };
        ended = (ends-mid f (open_context m) (exchanges m) a mid, stands.ended);
        held = counted-at (count_after run.held words x) (held (history c (p ∷ m)) c) (with_minted (Some (begun_by at.context)) (event_in x) (without_all (spent a x) (held (history c m) c)))
            (asked-held c grows.entry grows.tail a x m shows grows.follow
            ∙ ap (λ (b : Option What). with_minted b (event_in x) (without_all (spent a x) (held (history c m) c))) opened) counted;
        locals = stands.locals;
      } in
      subst (λ (l : List Piece). Stands k (run_with run now (Stage.Open 0) (count_after run.held words x)) c f l) (sym grows.is) answered

  -- the end is answered

  pub stands-ended : (run : CoreRun W) (c : ℕ) (f : k.Fixed) (m n : List Piece) (cells : Option Cells) (x : Answer)
      → run.stage ≡ Stage.Ending cells → GrowsByAsk c (Ask.End cells) x m n
      → Stands k run c f m → Stands k (run_with run run.work Stage.Between 0) c f n
  stands-ended run c f m n cells x is grows stands =
      let p = Piece.Answered grows.entry grows.tail (Ask.End cells) x in
      let over : IsOver k f (open_context m) (exchanges m) (k.state run.work) cells
      = subst (λ (g : Stage). IsAtStage k f (open_context m) (exchanges m) (k.state run.work) g) is stands.stage in
      let ended : Stands k (run_with run run.work Stage.Between 0) c f (p ∷ m) = record {
        core = stands.core;
        fixed = stands.fixed;
        pieces = ((grows.is_lead, grows.follow), stands.pieces);
        opened = ended-context c grows.entry grows.tail cells x m grows.is_lead grows.follow;
        stage = refl;
        ended = ((k.state run.work, over), stands.ended);
        held = counted-at 0 (held (history c (p ∷ m)) c) [] (ended-held c grows.entry grows.tail cells x m grows.is_lead grows.follow) counted-none;
        locals = stands.locals;
      } in
      subst (λ (l : List Piece). Stands k (run_with run run.work Stage.Between 0) c f l) (sym grows.is) ended
