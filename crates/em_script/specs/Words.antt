-- The words with which lines begin, and those of priorities, bodies and kinds.
use Rattle.std.specs.Prelude.{ℕ, List, [], ◌∷◌, codes}
use Rattle.em_log.specs.declared.graph.Priority.{Priority}
use Rattle.em_log.specs.declared.graph.Priority.TheVariants as priorities
use Rattle.em_log.specs.declared.ids.Kind.{Kind}
use Rattle.em_log.specs.declared.ids.Kind.TheVariants as kinds
use Rattle.em_script.specs.declared.line.Part.{Part}
use Rattle.em_script.specs.declared.line.Part.TheVariants as parts
use Rattle.em_script.specs.declared.words.TopWord.{TopWord}
use Rattle.em_script.specs.declared.words.TopWord.TheVariants as top
use Rattle.em_script.specs.declared.words.BodyWord.{BodyWord}
use Rattle.em_script.specs.declared.words.BodyWord.TheVariants as body
use Rattle.em_script.specs.Form.{Form, one_of}

-- ---- outside bodies

abbrev pub top_words : List (List ℕ × TopWord)
top_words =
    (codes "cores", top.Cores) ∷ (codes "pool", top.Pool) ∷ (codes "group", top.Group) ∷ (codes "eo", top.Eo)
    ∷ (codes "agroup", top.Agroup) ∷ (codes "queue", top.Queue) ∷ (codes "egroup", top.Egroup)
    ∷ (codes "boot", top.Boot) ∷ (codes "error", top.Error) ∷ (codes "body", top.Body) ∷ (codes "done", top.Done) ∷ []

abbrev pub top_text : TopWord → List ℕ
top_text top.Cores = codes "cores"
top_text top.Pool = codes "pool"
top_text top.Group = codes "group"
top_text top.Eo = codes "eo"
top_text top.Agroup = codes "agroup"
top_text top.Queue = codes "queue"
top_text top.Egroup = codes "egroup"
top_text top.Boot = codes "boot"
top_text top.Error = codes "error"
top_text top.Body = codes "body"
top_text top.Done = codes "done"

abbrev pub top_word : Form TopWord
top_word = one_of top_words top_text

-- ---- in a body

abbrev pub later_words : List (List ℕ × BodyWord)
later_words =
    (codes "dequeue", body.Dequeue) ∷ (codes "enable", body.Enable) ∷ (codes "disable", body.Disable)
    ∷ (codes "endatomic", body.EndAtomic) ∷ (codes "endordered", body.EndOrdered)
    ∷ (codes "endgroup", body.EndGroup) ∷ (codes "apply", body.Apply) ∷ (codes "increment", body.Increment)
    ∷ (codes "abort", body.Abort) ∷ (codes "start", body.Start) ∷ (codes "stop", body.Stop)
    ∷ (codes "modify", body.Modify) ∷ (codes "fail", body.Fail) ∷ []

abbrev pub body_words : List (List ℕ × BodyWord)
body_words =
    (codes "set", body.Set) ∷ (codes "if", body.If) ∷ (codes "else", body.Else) ∷ (codes "end", body.End)
    ∷ (codes "repeat", body.Repeat) ∷ (codes "cell", body.Cell) ∷ (codes "say", body.Say)
    ∷ (codes "alloc", body.Alloc) ∷ (codes "free", body.Free) ∷ (codes "keep", body.Keep)
    ∷ (codes "send", body.Send) ∷ (codes "sendg", body.SendG) ∷ (codes "claim", body.Claim) ∷ later_words

abbrev pub body_text : BodyWord → List ℕ
body_text body.Set = codes "set"
body_text body.If = codes "if"
body_text body.Else = codes "else"
body_text body.End = codes "end"
body_text body.Repeat = codes "repeat"
body_text body.Cell = codes "cell"
body_text body.Say = codes "say"
body_text body.Alloc = codes "alloc"
body_text body.Free = codes "free"
body_text body.Keep = codes "keep"
body_text body.Send = codes "send"
body_text body.SendG = codes "sendg"
body_text body.Claim = codes "claim"
body_text body.Dequeue = codes "dequeue"
body_text body.Enable = codes "enable"
body_text body.Disable = codes "disable"
body_text body.EndAtomic = codes "endatomic"
body_text body.EndOrdered = codes "endordered"
body_text body.EndGroup = codes "endgroup"
body_text body.Apply = codes "apply"
body_text body.Increment = codes "increment"
body_text body.Abort = codes "abort"
body_text body.Start = codes "start"
body_text body.Stop = codes "stop"
body_text body.Modify = codes "modify"
body_text body.Fail = codes "fail"

abbrev pub body_word : Form BodyWord
body_word = one_of body_words body_text

-- ---- in slots

abbrev pub priority_words : List (List ℕ × Priority)
priority_words =
    (codes "lowest", priorities.Lowest) ∷ (codes "low", priorities.Low) ∷ (codes "normal", priorities.Normal)
    ∷ (codes "high", priorities.High) ∷ (codes "highest", priorities.Highest) ∷ []

abbrev pub priority_text : Priority → List ℕ
priority_text priorities.Lowest = codes "lowest"
priority_text priorities.Low = codes "low"
priority_text priorities.Normal = codes "normal"
priority_text priorities.High = codes "high"
priority_text priorities.Highest = codes "highest"

abbrev pub priority : Form Priority
priority = one_of priority_words priority_text

abbrev pub part_words : List (List ℕ × Part)
part_words =
    (codes "receive", parts.Receive) ∷ (codes "start", parts.Start) ∷ (codes "stop", parts.Stop)
    ∷ (codes "lstart", parts.LocalStart) ∷ (codes "lstop", parts.LocalStop) ∷ (codes "error", parts.Error) ∷ []

abbrev pub part_text : Part → List ℕ
part_text parts.Receive = codes "receive"
part_text parts.Start = codes "start"
part_text parts.Stop = codes "stop"
part_text parts.LocalStart = codes "lstart"
part_text parts.LocalStop = codes "lstop"
part_text parts.Error = codes "error"

abbrev pub part : Form Part
part = one_of part_words part_text

abbrev pub kind_words : List (List ℕ × Kind)
kind_words =
    (codes "atomic", kinds.Atomic) ∷ (codes "parallel", kinds.Parallel) ∷ (codes "ordered", kinds.Ordered) ∷ (codes "local", kinds.Local)
    ∷ (codes "unscheduled", kinds.Unscheduled) ∷ (codes "output", kinds.Output) ∷ []

abbrev pub kind_text : Kind → List ℕ
kind_text kinds.Atomic = codes "atomic"
kind_text kinds.Parallel = codes "parallel"
kind_text kinds.Ordered = codes "ordered"
kind_text kinds.Local = codes "local"
kind_text kinds.Unscheduled = codes "unscheduled"
kind_text kinds.Output = codes "output"

abbrev pub kind : Form Kind
kind = one_of kind_words kind_text
