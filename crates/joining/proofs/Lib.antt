pub mod JoiningLaws
