pub mod ManyLaws
pub mod TotalLaws
pub mod RestrictLaws
pub mod ListedLaws
pub mod JoinLaws
