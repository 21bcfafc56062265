-- The steps of an algorithm, as a tree. Web IDL's and ECMA-262's algorithms ask something of the objects of a script (read a property, call a
-- function), perform other algorithms, and end with a completion (ECMA-262, "Algorithm Conventions", "The Completion Record Specification Type").
-- A job is an algorithm with its arguments. J, Q, A and R stand for jobs, asks, answers and completions; W for worlds, S for what stops a run.

-- steps end with a completion; or they ask, and go on by the answer; or they perform the steps of a job, and go on by its completion
pub data Dialog (Job Ask Answer Completion : Type 0) : Type 0 where
  End : Completion → Dialog Job Ask Answer Completion
  Say : Ask → (Answer → Dialog Job Ask Answer Completion) → Dialog Job Ask Answer Completion
  Steps : Job → (Completion → Dialog Job Ask Answer Completion) → Dialog Job Ask Answer Completion

-- the one steps, and where they end the others
abbrev pub bind : {J Q A R : Type 0} → Dialog J Q A R → (R → Dialog J Q A R) → Dialog J Q A R
bind (End r) k = k r
bind (Say q f) k = Say q (λ a. bind (f a) k)
bind (Steps j f) k = Steps j (λ r. bind (f r) k)
